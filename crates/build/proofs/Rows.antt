-- FORMAT 4, 8, 11, worked: the tables of one triangle meet what `build` asks.
use mathlib.Core.Path.{refl}
use mathlib.Core.Logic.{inl}
use mathlib.Core.Bool.{true, false}
use mathlib.Core.List.{List, [], ◌∷◌, ◌++◌}
use Prim.Native.Nat.{ℕ, zero, suc, ◌+◌, ◌≤◌, ◌<◌}
use native.Mathlib.Omega.{arith}
use lib.ListN.{replicate}
use lib.Ieee.{binary32, of_bits, to_bits}
use Rattle.std.specs.Prelude.{None}
use Rattle.block.specs.declared.stream.Stream.{Stream}
use Rattle.block.specs.declared.crease.CreaseRule.TheVariants.{Own}
use Rattle.lists.specs.Loops.{tab}
use Rattle.lists.specs.Lists.{join_n}
use Rattle.mesh.specs.Words.{no4}
use Rattle.mesh.specs.Soup.{gathered, Face, dense, Frame}
use Rattle.mesh.specs.Normals.{corner_normal}
use Rattle.mesh.specs.Vertices.{key_of, keys_of}
use Rattle.mesh.specs.Mesh.{Slices}
use Rattle.tables.specs.declared.layout.Plan.{Plan}
use Rattle.tables.specs.Layout.{plan_of}
use Rattle.lists.specs.Parts.{seg}
use Rattle.tables.specs.Soups.{point_in, gather_in, start_in, points_in, plain, corner_in, face_in, soup_in}
use Rattle.tables.proofs.Room.{plan_fits}
use Rattle.vertices.specs.Search.{corner_key}
use Rattle.corners.specs.Laid.{tables_of}
use Rattle.corners.specs.Corner.{Lent, point_at, texture_at, generated_at, normal_at, words_at, key_in}
use Rattle.build.specs.declared.shared.Shared.{Shared}
use Rattle.build.specs.Built.{Told, Ready}
use Rattle.corners.proofs.Rooms.{plan_laid, plan_low}

-- (0, 0, 0), (1, 0, 0), (0, 1, 0)
abbrev points : List ℕ
points = 0 ∷ 0 ∷ 0 ∷ 0x3f80_0000 ∷ 0 ∷ 0 ∷ 0 ∷ 0x3f80_0000 ∷ 0 ∷ []

-- three points, three corners, one face
abbrev plan : Plan
plan = plan_of 3 3 1 0

abbrev words : List ℕ
words = points ++ (0 ∷ 1 ∷ 2 ∷ 0 ∷ 3 ∷ replicate 42 0)

abbrev lent : Lent
lent = record { block = []; coord = []; floats = replicate 9 (of_bits binary32 0) }

abbrev nowhere : Stream
nowhere = record { per_vertex = false; values = record { at = 0; len = 0 }; index = record { at = 0; len = 0 } }

abbrev shared : Shared
shared =
    record {
      ccw = true;
      convex = true;
      widths = record { normal = 3; colour = 0; texture = 0 };
      attributes = record { normals = None; colours = nowhere; alpha = false; missing = no4 };
    }

abbrev frame : Frame
frame = record { points = points; ccw = true; convex = true; supplied = true; crease = Own }

abbrev faces : List Face
faces = (plain 0 0 ∷ plain 1 1 ∷ plain 2 2 ∷ []) ∷ []

abbrev slices : Slices
slices = record { sources = replicate 3 7; positions = replicate 9 7; normals = replicate 9 7; colours = []; textures = []; indices = replicate 3 7 }

below : (c : ℕ) → c < 3 → point_in words plan c < 3
unfolding plan_of point_in
below zero h = omega arith
below (suc zero) h = omega arith
below (suc (suc zero)) h = omega arith
below (suc (suc (suc c))) h = let z : ⊥ = omega arith in absurd z

rising : (g : ℕ) → g < 1 → start_in words plan g + 3 ≤ start_in words plan (suc g)
unfolding plan_of start_in
rising zero h = omega arith
rising (suc g) h = let z : ⊥ = omega arith in absurd z

told : Told lent shared plan words frame faces
unfolding plan_of tables_of point_in gathered gather_in start_in points_in seg corner_in face_in soup_in tab dense join_n keys_of key_of corner_normal key_in corner_key point_at words_at normal_at generated_at texture_at of_bits to_bits
told = record {
  holds = record {
    sound = record {
      room = plan_fits 3 3 1 0 56 (omega arith) (omega arith) (omega arith) (omega arith);
      points = below;
      gathers = below;
      first = refl;
      rises = λ g h. omega (arith, rising g h);
      last = refl;
    };
    points = refl;
    full = refl;
    faces = refl;
  };
  ccw = refl;
  convex = refl;
  keys = refl;
}

pub met : Ready lent shared plan words slices
unfolding plan_of
met = record {
  soup = record { frame = frame; faces = faces; told = told };
  laid = plan_laid 3 3 1 0 (omega arith) (omega arith) (omega arith) 56 (omega arith);
  low = plan_low 3 3 1 0 (omega arith) (omega arith) (omega arith);
  scratch = omega arith;
  long = rising;
  normal = refl;
  colour = inl refl;
  texture = inl refl;
  sources = omega arith;
  positions = omega arith;
  normals = omega arith;
  colours = omega arith;
  textures = omega arith;
  indices = omega arith;
  floats = omega arith;
}
