use mathlib.Core.Path.{ap, ◌∙◌}
use lib.Ieee.{binary32, of_bits}
use Rattle.polygon.proofs.Projection.{entry_word}
use Rattle.polygon.proofs.points.entry_at.Goals as goal

pub returns : goal.returns
returns c = c.of_bits.ensures ∙ ap (of_bits binary32) c.get.ensures ∙ entry_word _ _ _ c.requires.1
