-- FORMAT 16.3: how near sine and cosine are to their series, in whole numbers: angles and results in units of 2^-149, of which every finite f32 is a whole number.
use Rattle.std.specs.Prelude.{◌≡◌, Bool, true, false, cond, ℕ, ◌+◌, ◌*◌, ◌^◌, ◌≤◌, leb, Float}
use Rattle.std.specs.Float.{nan, inf, fin, binary32}
use Rattle.std.specs.Float.Ieee.{of_bits, up, down}
use Rattle.std.specs.Float.Ieee.Exact.{HasValue}
use Rattle.series.specs.Series.{half_turn, sin_plus, sin_minus, cos_plus, cos_minus, denominator}

-- FORMAT 16.3: 1, p and 2p, in units
abbrev pub unit : ℕ
unit = 2 ^ 149

abbrev pub half_units : ℕ
half_units = half_turn * 2 ^ 89

abbrev pub turn_units : ℕ
turn_units = half_turn * 2 ^ 90

-- FORMAT 16.3: ±n is ±u and q whole turns more, the turns with the sign of n
abbrev pub Turned : Bool → Bool → ℕ → ℕ → ℕ → Type 0
Turned false false n u q = n ≡ q * turn_units + u
Turned true true n u q = n ≡ q * turn_units + u
Turned false true n u q = n + u ≡ q * turn_units
Turned true false n u q = n + u ≡ q * turn_units

-- FORMAT 16.3: x less a whole multiple of 2p is ±u (minus where s is true), of size at most p
pub record Reduced (x : Float) (s : Bool) (u : ℕ) : Type 0 where
  pub sign : Bool
  pub n : ℕ
  pub value : HasValue x sign n unit
  pub turns : ℕ
  pub turned : Turned sign s n u turns
  pub size : u ≤ half_units

-- FORMAT 16.3: ±t / 2^149 is within 2^-20 of (a - b) / z: | ±t * z - 2^149 * (a - b) | * 2^20 ≤ 2^149 * z
pub record Apart (t a b z : ℕ) : Type 0 where
  pub low : 2 ^ 20 * (unit * a) ≤ 2 ^ 20 * (t * z + unit * b) + unit * z
  pub high : 2 ^ 20 * (t * z + unit * b) ≤ 2 ^ 20 * (unit * a) + unit * z

abbrev pub Within : Bool → ℕ → ℕ → ℕ → ℕ → Type 0
Within false t a b z = Apart t a b z
Within true t a b z = Apart t b a z

pub record Near (r : Float) (a b z : ℕ) : Type 0 where
  pub sign : Bool
  pub t : ℕ
  pub value : HasValue r sign t unit
  pub within : Within sign t a b z

-- FORMAT 16.3: s and c are within 2^-20 of the series through powers 31 and 32 at the reduced angle ±u; the powers of the sine's are odd and those of the cosine's even
pub record Accurate (x s c : Float) : Type 0 where
  pub sign : Bool
  pub u : ℕ
  pub reduced : Reduced x sign u
  pub sine : Near s (cond sign (sin_minus 31 unit u) (sin_plus 31 unit u)) (cond sign (sin_plus 31 unit u) (sin_minus 31 unit u)) (denominator 31 unit)
  pub cosine : Near c (cos_plus 32 unit u) (cos_minus 32 unit u) (denominator 32 unit)

-- FORMAT 16.3: of size at most 1024
unfoldable pub in_range : Float → Bool
in_range nan = false
in_range (inf s) = false
in_range (fin s m e) = leb (m * up e) (1024 * down e)

-- FORMAT 16.3: the promise: other angles give sine 0 and cosine 1
abbrev pub Promise : Bool → Float → Float → Float → Type 0
Promise true x s c = Accurate x s c
Promise false x s c = (s ≡ of_bits binary32 0) × (c ≡ of_bits binary32 0x3f80_0000)
