use mathlib.Core.Path.{◌≡◌, refl, ◌∙◌}
use mathlib.Core.Bool.{Bool, true, false}
use lib.Ieee.{binary32, of_bits, of_int}
use Rattle.std.specs.Prelude.{pos}
use Rattle.std.specs.Int.{from_bool}
use Rattle.boxes.specs.Box.{side_of}
use Rattle.boxes.proofs.verts.side.Goals as goal

side_is : (far : Bool) → of_int binary32 (pos (from_bool far)) ≡ side_of far
unfolding side_of of_int of_bits
side_is true = refl
side_is false = refl

pub returns : goal.returns
returns c = c.from.ensures ∙ side_is c.args.far
