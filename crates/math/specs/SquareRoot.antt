-- FORMAT 9.2: the square root of an f32, f32::sqrt: the nearest f32 to the exact root. `root_of` computes it; Nearest.antt says what the nearest is.
use Rattle.std.specs.Prelude.{ℕ, zero, suc, ◌+◌, ◌-◌, ◌*◌, ◌/◌, ◌%◌, ◌^◌, true, false, cond, leb, ltb, Float}
use Rattle.std.specs.Float.{nan, inf, fin, binary32}
use Rattle.std.specs.Float.Ieee.{size, of_bits, to_bits}

-- r or the next number, whichever has the larger square that is not above n
abbrev pub up_to : ℕ → ℕ → ℕ
up_to n r = cond (leb ((r + 1) * (r + 1)) n) (r + 1) r

-- the whole part of the square root of an n below 4 ^ k, found a binary digit at a time
unfoldable pub isqrt : ℕ → ℕ → ℕ
isqrt zero n = 0
isqrt (suc k) n = up_to n (2 * isqrt k (n / 4))

-- The positive f32 with the bits b is significand b * 2 ^ place b of 2 ^ -173, and significand b has 24 binary digits.
unfoldable pub place : ℕ → ℕ
unfolding size
place b = cond (ltb b (2 ^ 23)) (size b) (b / 2 ^ 23 + 23)

unfoldable pub significand : ℕ → ℕ
unfolding size
significand b = cond (ltb b (2 ^ 23)) (b * 2 ^ (24 - size b)) (b % 2 ^ 23 + 2 ^ 23)

-- The significand is shifted by 25 or 26 places, so that the power of two left is even. Its whole root has 25 digits: the 24 of the result, and one to round by.
unfoldable pub root_digits : ℕ → ℕ → ℕ
unfolding isqrt
root_digits g m = (isqrt 25 (m * 2 ^ (25 + g % 2)) + 1) / 2

-- the bits of the root, from a place and a significand
unfoldable pub joined : ℕ → ℕ → ℕ
unfolding root_digits
joined g m = (g / 2 + 51) * 2 ^ 23 + root_digits g m

-- the bits of the root of the positive f32 with the bits b
unfoldable pub root_bits : ℕ → ℕ
unfolding place significand joined
root_bits b = joined (place b) (significand b)

-- FORMAT 9.2: zeros, positive infinity and NaN are their own roots; below 0 it is NaN
unfoldable pub root_of : Float → Float
unfolding root_bits of_bits to_bits
root_of nan = nan
root_of (inf true) = nan
root_of (inf false) = inf false
root_of (fin s zero e) = fin s zero e
root_of (fin true (suc m) e) = nan
root_of (fin false (suc m) e) = of_bits binary32 (root_bits (to_bits binary32 (fin false (suc m) e)))
