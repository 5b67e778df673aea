-- FORMAT 7.4: a row, computed: of the points (1, 0, 5), (3, -0, 5), (3, 1, NaN) X spans 2 and Y 1, from -0 on; the last has s = 2 / 2 and t = 1 / 2.
use mathlib.Core.Path.{◌≡◌, refl}
use mathlib.Core.List.{List, [], ◌∷◌}
use Prim.Native.Nat.{ℕ}
use lib.Ieee.{binary32, of_bits, to_bits, sub, div, lt, is_nan}
use Rattle.math.specs.Order.{is_zero, negative, choice, min_of, max_of}
use Rattle.mesh.specs.declared.texture.AxisName.TheVariants.{X, Y}
use Rattle.mesh.specs.Texture.{coord_of, widened, span_of, axis_by, insert, sorted, divisor, fit_by, fitting, fit_of, default_at}

words : List ℕ
words = 0x3f80_0000 ∷ 0 ∷ 0x40a0_0000 ∷ 0x4040_0000 ∷ 0x8000_0000 ∷ 0x40a0_0000 ∷ 0x4040_0000 ∷ 0x3f80_0000 ∷ 0x7fc0_0000 ∷ []

fit_row : (fit_of words 3 ≡ record { s_axis = X; t_axis = Y; s_low = of_bits binary32 0x3f80_0000; t_low = of_bits binary32 0x8000_0000; by = of_bits binary32 0x4000_0000 })
    × (default_at words (fit_of words 3) 2 ≡ record { s = 0x3f80_0000; t = 0x3f00_0000 })
unfolding words fit_of fitting fit_by sorted insert axis_by span_of widened coord_of divisor default_at min_of max_of choice is_zero negative is_nan lt sub div of_bits to_bits
fit_row = (refl, refl)
