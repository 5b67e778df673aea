use mathlib.Core.Path.{◌∙◌, ap}
use lib.Ieee.{binary32, to_bits}
use Rattle.math.specs.SquareRoot.{root_of}
use Rattle.roots.proofs.sitemesh_root.Goals as goal

pub returns : goal.returns
returns c = c.bits_of.ensures ∙ ap (to_bits binary32) (c.root.ensures.is ∙ ap root_of c.of_bits.ensures)
