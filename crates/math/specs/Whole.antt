-- FORMAT 9.1: whole numbers as f32.
use Rattle.std.specs.Prelude.{ℕ, ◌^◌, ◌<◌}

-- n is an f32 without loss: the significand of an f32 has 24 bits
abbrev pub Exact : ℕ → Type 0
Exact n = n < 2 ^ 24
