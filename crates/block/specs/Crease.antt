-- The crease rule of an angle and its cosine. FORMAT 10.2, generate_normals.
use Rattle.std.specs.Prelude.{cond, Float}
use Rattle.std.specs.Float.{binary32}
use Rattle.std.specs.Float.Ieee.{of_bits, le}
use Rattle.math.specs.Vector.{zero_f}
use Rattle.block.specs.declared.crease.CreaseRule.{CreaseRule}
use Rattle.block.specs.declared.crease.CreaseRule.TheVariants.{Own, Every, Bound}

-- the f32 π, by its bits
abbrev pub π : Float
π = of_bits binary32 0x4049_0fdb

-- FORMAT 10.2, generate_normals: own at 0 or less, every face from π up
unfoldable pub crease_of : Float → Float → CreaseRule
crease_of angle cosine = cond (le angle zero_f) Own (cond (le π angle) Every (Bound cosine))
