-- The words of the format for a default and for the first of two are those of the methods of Option.
use mathlib.Core.Path.{◌≡◌, refl}
use Rattle.std.specs.Prelude.{Option, Some, None, unwrap_or}
use Rattle.std.specs.Option.{option_or}
use Rattle.math.specs.declared.vector.V3.{V3}
use Rattle.mesh.specs.Normals.{or_else}
use Rattle.mesh.specs.Frames.{or}

pub unwrap_or_is : (k : Option V3) (d : V3) → unwrap_or k d ≡ or_else k d
unfolding or_else
unwrap_or_is None d = refl
unwrap_or_is (Some u) d = refl

pub option_or_is : (a b : Option V3) → option_or a b ≡ or a b
option_or_is None b = refl
option_or_is (Some u) b = refl
