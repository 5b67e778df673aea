-- Worked examples, by computation.
use mathlib.Core.Path.{◌≡◌, refl}
use Prim.Native.Nat.{ℕ}
use lib.Ieee.{Float, nan, binary32, of_bits, to_bits}
use Rattle.std.specs.Prelude.{Some, None}
use Rattle.math.specs.SquareRoot.{root_of}
use Rattle.math.specs.Vector.{zero_f, one_f, v3, x_axis, y_axis, unit_of}
use Rattle.math.specs.Quaternion.{quat, identity, between}
use Rattle.math.specs.Order.{is_zero, negative, min_of, max_of}

abbrev pub float : ℕ → Float
float b = of_bits binary32 b

abbrev pub root_word : ℕ → ℕ
root_word b = to_bits binary32 (root_of (of_bits binary32 b))

-- FORMAT 9.2: the roots of 2, of the smallest and of the largest f32, of the zeros, infinity and NaN, and of -1
pub roots :
    (root_word 0x4000_0000 ≡ 0x3fb5_04f3)
    × (root_word 0x0000_0001 ≡ 0x1a35_04f3)
    × (root_word 0x7f7f_ffff ≡ 0x5f7f_ffff)
    × (root_word 0x0000_0000 ≡ 0x0000_0000)
    × (root_word 0x8000_0000 ≡ 0x8000_0000)
    × (root_word 0x7f80_0000 ≡ 0x7f80_0000)
    × (root_word 0x7fc0_0000 ≡ 0x7fc0_0000)
    × (root_word 0xbf80_0000 ≡ 0x7fc0_0000)
unfolding root_of of_bits to_bits
roots = (refl, refl, refl, refl, refl, refl, refl, refl)

-- FORMAT 9.3: (3, 4, 0) is normalised to (0.6, 0.8, 0), and (0, 0, 0) is not.
-- (41, 0, 0) shows the reciprocal: 41 * (1 / 41) is just below 1, where 41 / 41 is 1.
pub units :
    (unit_of (v3 (float 0x4040_0000) (float 0x4080_0000) zero_f) ≡ Some (v3 (float 0x3f19_999a) (float 0x3f4c_cccd) zero_f))
    × (unit_of (v3 (float 0x4224_0000) zero_f zero_f) ≡ Some (v3 (float 0x3f7f_ffff) zero_f zero_f))
    × (unit_of (v3 zero_f zero_f zero_f) ≡ None)
unfolding unit_of root_of of_bits lib.Ieee.add lib.Ieee.mul lib.Ieee.div lib.Ieee.lt
units = (refl, refl, refl)

-- FORMAT 9.4: a NaN gives way, and of two zeros the minimum is -0, the maximum 0
pub extremes :
    (min_of nan one_f ≡ one_f)
    × (min_of one_f nan ≡ one_f)
    × (min_of zero_f (float 0x8000_0000) ≡ float 0x8000_0000)
    × (max_of zero_f (float 0x8000_0000) ≡ zero_f)
    × (max_of (float 0x8000_0000) zero_f ≡ zero_f)
unfolding min_of max_of is_zero negative of_bits lib.Ieee.lt lib.Ieee.is_nan
extremes = (refl, refl, refl, refl, refl)

-- FORMAT 9.5: a quarter turn from X to Y, and no turn
pub turns : (between x_axis y_axis ≡ quat zero_f zero_f (float 0x3f35_04f3) (float 0x3f35_04f3)) × (between y_axis y_axis ≡ identity)
unfolding between root_of of_bits lib.Ieee.add lib.Ieee.sub lib.Ieee.mul lib.Ieee.div lib.Ieee.lt lib.Ieee.neg
turns = (refl, refl)
