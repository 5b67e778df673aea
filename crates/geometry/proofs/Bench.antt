-- Ten worked cases, one from each part of a conversion, by computation under one theorem. Each row speaks of its crate's definition.
use mathlib.Core.Path.{◌≡◌}
use mathlib.Core.Bool.{false}
use mathlib.Core.List.{[], ◌∷◌, map}
use lib.IntN.{pos, neg_ℤ}
use lib.Ieee.{Float, nan, fin}
use Rattle.math.specs.Vector.{v3}
use Rattle.math.proofs.Rows.{root_word, roots}
use Rattle.block.specs.Runs.{run_of}
use Rattle.block.specs.Texture.{uv_words}
use Rattle.block.proofs.RunRows.{word_of, runs_of, row_runs, row_empty, row_none}
use Rattle.block.proofs.TextureRows.{identity, texture_rows}
use Rattle.polygon.specs.Facing.{newell}
use Rattle.polygon.specs.Ears.{triple, ear_clip}
use Rattle.polygon.proofs.Rows.{rows}

abbrev o : Float
o = fin false 0 (pos 0)

abbrev l : Float
l = fin false 1 (pos 0)

pub record Bench : Type 0 where
  -- FORMAT 6.1
  pub two_runs : runs_of (pos 0 ∷ pos 1 ∷ pos 2 ∷ neg_ℤ (pos 1) ∷ pos 3 ∷ neg_ℤ (pos 7) ∷ []) ≡ run_of 0 (0 ∷ 1 ∷ 2 ∷ []) ∷ run_of 4 (map word_of (pos 3 ∷ neg_ℤ (pos 7) ∷ [])) ∷ []
  pub empty_runs : runs_of (neg_ℤ (pos 1) ∷ neg_ℤ (pos 1) ∷ []) ≡ run_of 0 [] ∷ run_of 1 [] ∷ []
  pub no_runs : runs_of [] ≡ []
  -- FORMAT 10.1
  pub facing : newell (v3 o o o ∷ v3 l o o ∷ v3 l l o ∷ []) ≡ v3 o o l
  -- FORMAT 12.3
  pub left_square : ear_clip ((o, o) ∷ (l, o) ∷ (l, l) ∷ (o, l) ∷ []) ≡ triple 3 0 1 ∷ triple 1 2 3 ∷ []
  pub right_square : ear_clip ((o, o) ∷ (o, l) ∷ (l, l) ∷ (l, o) ∷ []) ≡ triple 0 2 3 ∷ triple 2 0 1 ∷ []
  pub equal_points : ear_clip ((o, o) ∷ (o, o) ∷ (o, o) ∷ (o, o) ∷ []) ≡ triple 0 1 2 ∷ triple 0 2 3 ∷ []
  pub nan_points : ear_clip ((nan, nan) ∷ (nan, nan) ∷ (nan, nan) ∷ (nan, nan) ∷ []) ≡ triple 3 0 1 ∷ triple 1 2 3 ∷ []
  -- FORMAT 9.2
  pub root_of_two : root_word 0x4000_0000 ≡ 0x3fb5_04f3
  -- FORMAT 7.3: (0.25, 0.25) becomes (0.25, 0.75)
  pub quarter : uv_words false identity (record { s = 0x3e80_0000; t = 0x3e80_0000 }) ≡ record { s = 0x3e80_0000; t = 0x3f40_0000 }

pub bench : Bench
bench = record {
  two_runs = row_runs;
  empty_runs = row_empty;
  no_runs = row_none;
  facing = rows.0;
  left_square = rows.1;
  right_square = rows.2;
  equal_points = rows.3;
  nan_points = rows.4;
  root_of_two = roots.0;
  quarter = texture_rows.1;
}
