-- FORMAT 9.2: the root digit by digit: what one digit more makes of a root so far, and what holds after each.
use Rattle.std.specs.Prelude.{ℕ, ◌+◌, ◌*◌, ◌/◌, ◌%◌, ◌^◌, ◌≤◌, ◌<◌, ◌≡◌, ◌⊎◌, Bool, ◌&&◌, ltb, Float}
use Rattle.std.specs.Float.{binary32}
use Rattle.std.specs.Float.Ieee.{lt, of_bits, to_bits}

-- 1 where rest is not below trial, else 0
abbrev pub Bit : ℕ → ℕ → ℕ → Type 0
Bit rest trial b = ((rest < trial) × (b ≡ 0)) ⊎ ((trial ≤ rest) × (b ≡ 1))

-- From a root q with the remainder r, and the next two binary digits of the number, the root e with the remainder t: e is q with a digit more,
-- its square and the remainder make up the longer number, and the remainder is at most twice the root.
pub record Digit (q r two e t : ℕ) : Type 0 where
  pub longer : e / 2 ≡ q
  pub whole : e * e + t ≡ 4 * (q * q + r) + two
  pub small : t ≤ 2 * e

-- After so many digits of the root of s: what is done makes up q * q + r, rest has the other digits of s, at the top of a word of 32, and the
-- remainder is at most twice the root so far.
pub record SoFar (s done q r rest : ℕ) : Type 0 where
  pub turns : done ≤ 25
  pub small : r ≤ 2 * q
  pub whole : s * 4 ^ done ≡ (q * q + r) * 2 ^ 32 + rest
  pub word : rest < 2 ^ 32
  pub within : q < 2 ^ done

-- The bits of an f32 that is positive and finite, and no subnormal; whether x is one
abbrev pub Plain : ℕ → Type 0
Plain b = (2 ^ 23 ≤ b) × (b < 255 * 2 ^ 23)

unfoldable pub plain : Float → Bool
plain x = lt (of_bits binary32 0) x && lt x (of_bits binary32 0x7f80_0000) && ltb 8388607 (to_bits binary32 x)

-- the number that the root of such bits is taken of: their significand, shifted as `root_digits` does
abbrev pub tall : ℕ → ℕ
tall b = (b % 2 ^ 23 + 2 ^ 23) * 2 ^ (25 + (b / 2 ^ 23 + 23) % 2)
