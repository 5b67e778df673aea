-- The values of what is worked out on a half turn: 24 digits each, with their signs.
use mathlib.Core.Bool.{Bool, false}
use Prim.Native.Nat.{ℕ, ◌+◌, ◌*◌, ◌^◌, ◌≤◌, ◌<◌}
use native.Mathlib.Omega.{arith}
use lib.Dec.{leb}
use lib.IntN.{pos}
use lib.Ieee.{Float, binary32, of_int}
use lib.Ieee.Exact.{HasValue}
use Rattle.series.specs.Value.{sin_grid, cos_grid, blend}
use Rattle.series.proofs.Arc.{sin_le, cos_le}
use Rattle.sine.specs.SinCos.{fraction_of, half_of}
use Rattle.sine.proofs.Division.{blend_le}
use Rattle.sine.proofs.Number.{whole_value, part_value, sign_value}

pub record Half (j w : ℕ) (minus : Bool) (s c : Float) : Type 0 where
  pub sine : HasValue s minus (blend (sin_grid j) (sin_grid (j + 1)) w * 2 ^ 125) (2 ^ 149)
  pub cosine : HasValue c (leb 1024 j) (blend (cos_grid j) (cos_grid (j + 1)) w * 2 ^ 125) (2 ^ 149)

fraction_value : (t : ℕ) → t ≤ 16777216 → HasValue (fraction_of t) false (t * 2 ^ 125) (2 ^ 149)
unfolding fraction_of
fraction_value t h = part_value (of_int binary32 (pos t)) t h (whole_value t h)

pub sin_few : (j w : ℕ) → w ≤ 16777216 → blend (sin_grid j) (sin_grid (j + 1)) w ≤ 16777216
sin_few j w h = blend_le (sin_grid j) (sin_grid (j + 1)) w (sin_le j) (sin_le (j + 1)) h

pub cos_few : (j w : ℕ) → j < 2048 → w ≤ 16777216 → blend (cos_grid j) (cos_grid (j + 1)) w ≤ 16777216
cos_few j w l h = blend_le (cos_grid j) (cos_grid (j + 1)) w (cos_le j (omega arith)) (cos_le (j + 1) (omega arith)) h

pub half_is : (j w : ℕ) (minus : Bool) → j < 2048 → w ≤ 16777216 → Half j w minus (half_of j w minus).sin (half_of j w minus).cos
unfolding half_of
half_is j w minus l h =
    let s = blend (sin_grid j) (sin_grid (j + 1)) w in
    let c = blend (cos_grid j) (cos_grid (j + 1)) w in
    record {
      sine = sign_value (fraction_of s) minus (s * 2 ^ 125) (2 ^ 149) (fraction_value s (sin_few j w h));
      cosine = sign_value (fraction_of c) (leb 1024 j) (c * 2 ^ 125) (2 ^ 149) (fraction_value c (cos_few j w l h));
    }
