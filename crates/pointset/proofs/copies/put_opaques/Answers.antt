use mathlib.Core.Path.{refl}
use native.Mathlib.Omega.{arith}
use Rattle.block.specs.Value.{opaque_of}
use Rattle.mesh.specs.Words.{words4, point_words}
use Rattle.parts.proofs.Turning.{wide_given}
use Rattle.pointset.proofs.copies.put_opaques.Goals as goal

pub put_words-requires-clause-given : goal.put_words-requires-clause-given
put_words-requires-clause-given c =
    (λ k. words4 (opaque_of (point_words c.args.listed.now k)), wide_given 4 _ (λ t. refl) (λ i b x p. p) (omega (arith, c.requires.2)))

pub returns : goal.returns
returns c = c.put_words.ensures (λ k. words4 (opaque_of (point_words c.args.listed.now k))) (wide_given 4 _ (λ t. refl) (λ i b x p. p) (omega (arith, c.requires.2)))
