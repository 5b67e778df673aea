-- FORMAT 16.2, 16.3: entries of the table at a point of the half turn, and a straight line between two of them, in whole numbers.
use Rattle.std.specs.Prelude.{ℕ, ◌+◌, ◌-◌, ◌*◌, ◌/◌, ◌^◌, min}
use Rattle.series.specs.Series.{entry_of, half_turn}

-- FORMAT 16.3: the sine at point j of the half turn, j ≤ 2048, and the cosine's size there
abbrev pub sin_grid : ℕ → ℕ
sin_grid j = entry_of (min j (2048 - j))

abbrev pub cos_grid : ℕ → ℕ
cos_grid j = entry_of (1024 - j + (j - 1024))

-- FORMAT 16.3: between two entries: w of 2^24 parts from a to b, to 24 digits
abbrev pub blend : ℕ → ℕ → ℕ → ℕ
blend a b w = ((16777216 - w) * a + w * b) / 1073741824

-- FORMAT 16.2: a part, 2^-24 of a step, in units of 2^-149
abbrev pub fine : ℕ
fine = half_turn * 2 ^ 54
