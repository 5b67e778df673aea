-- FORMAT 9.2: what it is to be the nearest f32 to an exact square root, in whole numbers.
use Rattle.std.specs.Prelude.{ℕ, ◌+◌, ◌-◌, ◌*◌, ◌/◌, ◌^◌, ◌<◌, ◌≡◌, T, Float}
use Rattle.std.specs.Float.{nan, inf, fin, binary32}
use Rattle.std.specs.Float.Ieee.{up, down, of_bits, to_bits}
use Rattle.std.specs.Float.Ieee.Positive.{positive}
use Rattle.math.specs.SquareRoot.{root_of}

-- how many times the smallest f32, 2 ^ -149, a finite f32 is
unfoldable pub units_of : Float → ℕ
units_of nan = 0
units_of (inf s) = 0
units_of (fin s m e) = m * up e * 2 ^ 149 / down e

-- the f32 beside a positive one: positive f32 are in the order of their bits
unfoldable pub next : Float → Float
next r = of_bits binary32 (to_bits binary32 r + 1)

unfoldable pub previous : Float → Float
previous r = of_bits binary32 (to_bits binary32 r - 1)

abbrev pub square : ℕ → ℕ
square n = n * n

-- The halfway points beside r, in half units: the sums of r and its neighbours. The exact root is between them, so x is between their squares.
-- In quarters of a unit's square x is its units times 4 * 2 ^ 149.
pub record Nearest (x r : Float) : Type 0 where
  pub low : square (units_of (previous r) + units_of r) < 4 * 2 ^ 149 * units_of x
  pub high : 4 * 2 ^ 149 * units_of x < square (units_of r + units_of (next r))

-- What `root` promises: the one that `root_of` computes, which for a positive finite x is the nearest.
pub record Rooted (x r : Float) : Type 0 where
  pub is : r ≡ root_of x
  pub near : T (positive x) → Nearest x r
