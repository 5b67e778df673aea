use mathlib.Core.Path.{ap, ◌∙◌}
use lib.Ieee.{binary32, to_bits}
use Rattle.cone.proofs.Scaling.{length_is}
use Rattle.cone.proofs.lengths.known_length.Goals as goal

pub returns : goal.returns
returns c = length_is c.args.v c.bits_of.result c.known_root.result (c.bits_of.ensures ∙ ap (to_bits binary32) c.dot.ensures) c.known_root.ensures
