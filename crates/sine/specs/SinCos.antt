-- FORMAT 16.2, 16.3: sine and cosine of an angle from the table: what is worked out, to the bit.
use Rattle.std.specs.Prelude.{Bool, cond, ℕ, ◌+◌, ◌-◌, ◌*◌, ◌/◌, ◌%◌, ◌^◌, min, leb, ltb, pos, Float}
use Rattle.std.specs.Float.{binary32}
use Rattle.std.specs.Float.Ieee.{of_bits, to_bits, of_int, mul, neg}
use Rattle.series.specs.Value.{sin_grid, cos_grid, blend, fine}
use Rattle.sine.specs.declared.whole.SinCos.{SinCos}
use Rattle.sine.specs.Angle.{in_range}

-- FORMAT 16.2: the significand of a bit pattern without a sign, and how many units of 2^-149 that counts, as a power of two
abbrev pub mant : ℕ → ℕ
mant b = b % 8388608 + 8388608 * min (b / 8388608) 1

abbrev pub expo : ℕ → ℕ
expo b = b / 8388608 - 1

-- FORMAT 16.3: t / 2^24, which is exact for t up to 2^24
unfoldable pub fraction_of : ℕ → Float
fraction_of t = mul binary32 (of_int binary32 (pos t)) (of_bits binary32 0x3380_0000)

-- FORMAT 16.3: on a half turn, w of 2^24 parts after point j
unfoldable pub half_of : ℕ → ℕ → Bool → SinCos
half_of j w minus =
    let s = fraction_of (blend (sin_grid j) (sin_grid (j + 1)) w) in
    let c = fraction_of (blend (cos_grid j) (cos_grid (j + 1)) w) in
    record { sin = cond minus (neg s) s; cos = cond (leb 1024 j) (neg c) c }

-- FORMAT 16.2: the whole parts of 2^-24 of a step in an angle, by its bit pattern without a sign
unfoldable pub parts_of : ℕ → ℕ
parts_of a = mant a * 2 ^ expo a / fine

-- FORMAT 16.2, 16.3: of a bit pattern; past the half turn the angle is taken from the turn's end, where the sine has the other sign
unfoldable pub inside_of : ℕ → SinCos
inside_of b =
    let q = parts_of (b % 2147483648) in
    let k = q / 16777216 % 4096 in
    let w = q % 16777216 in
    cond (ltb k 2048) (half_of k w (leb 2147483648 b)) (half_of (4095 - k) (16777216 - w) (ltb b 2147483648))

-- FORMAT 16.3: of any angle: 0 and 1 where it is larger than 1,024, infinite or no number
unfoldable pub sin_cos_of : Float → SinCos
sin_cos_of x = cond (in_range x) (inside_of (to_bits binary32 x)) (record { sin = of_bits binary32 0; cos = of_bits binary32 0x3f80_0000 })
