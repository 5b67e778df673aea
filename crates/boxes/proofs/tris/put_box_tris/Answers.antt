use native.Mathlib.Omega.{arith}
use Rattle.parts.proofs.Turning.{wide_given}
use Rattle.boxes.specs.Box.{box_tris}
use Rattle.boxes.proofs.Sized.{tris_wide}
use Rattle.boxes.proofs.tris.put_box_tris.Goals as goal

pub put_words-requires-clause-given : goal.put_words-requires-clause-given
put_words-requires-clause-given c = (box_tris, wide_given 6 _ tris_wide (λ i b x p. p) (omega (arith, c.requires)))

pub returns : goal.returns
returns c = c.put_words.ensures box_tris (wide_given 6 _ tris_wide (λ i b x p. p) (omega (arith, c.requires)))
