-- FORMAT 13: two blocks that are equal but inside one run of coordIndex, and what the meshes of the two then share.
use Rattle.std.specs.Prelude.{ℕ, ◌+◌, ◌*◌, ◌≤◌, ◌<◌, ◌≡◌, ◌≢◌, Bool, true, false, ◌||◌, List, [], ◌∷◌, map, eqb, Float, length, get_or, take, drop}
use Rattle.std.specs.Float.Ieee.{le}
use Rattle.bits.specs.declared.Words4.{Words4}
use Rattle.math.specs.Vector.{zero_f}
use Rattle.block.specs.Header.{header_of}
use Rattle.block.specs.Extents.{place_of}
use Rattle.block.specs.Settings.{float_at, finite_or}
use Rattle.block.specs.Runs.{Run, run_of, triangles, sum_over}
use Rattle.lists.specs.Loops.{All}
use Rattle.lists.specs.Lists.{join_n}
use Rattle.mesh.specs.Soup.{Corner}
use Rattle.mesh.specs.Mend.{Usable}
use Rattle.mesh.specs.Mesh.{Slices, shown_at, normal_at}
use Rattle.mesh.specs.FaceSet.{rest_of, point_count, coord_in, runs_in, faces_of}

-- FORMAT 6.1: run r; an empty one beyond the last
abbrev pub run_in : List ℕ → ℕ → Run
run_in bs r = get_or (runs_in bs) r (run_of 0 [])

-- FORMAT 2.4: the byte at which entry k of coordIndex begins
unfoldable pub byte_of : List ℕ → ℕ → ℕ
byte_of bs k = (place_of (header_of bs) 1).at + 4 * k

-- FORMAT 13: the two are equal byte for byte, except inside run r, which has the same place and length in both; so no entry inside it is -1 in either
pub record OneRun (b c : List ℕ) (r : ℕ) : Type 0 where
  pub in_b : r < length (runs_in b)
  pub in_c : r < length (runs_in c)
  pub place : (run_in b r).start ≡ (run_in c r).start
  pub long : length (run_in b r).items ≡ length (run_in c r).items
  pub fore : take (byte_of b (run_in b r).start) b ≡ take (byte_of b (run_in b r).start) c
  pub aft : drop (byte_of b ((run_in b r).start + length (run_in b r).items)) b ≡ drop (byte_of b ((run_in b r).start + length (run_in b r).items)) c

-- FORMAT 13: the part of the indices that run j made: its place and length are those of the triangles of the runs
unfoldable pub run_part : List ℕ → List ℕ → ℕ → List ℕ
run_part bs indices j =
    let count = triangles (point_count (rest_of bs).head) in
    take (3 * count (run_in bs j).items) (drop (3 * sum_over count (take j (runs_in bs))) indices)

-- FORMAT 13: a run names the points that its entries give, kept or skipped
unfoldable pub names : List ℕ → ℕ → Bool
names [] p = false
names (e ∷ es) p = eqb e p || names es p

-- FORMAT 2.3: the crease angle, as read
abbrev pub crease_angle : List ℕ → Float
crease_angle bs = finite_or (float_at bs 0) zero_f

-- FORMAT 13: the normals of run j are out of reach of run r: no normal list, and a crease angle of 0 or less; or no normal list, and run j uses no point that run r
-- names in either block; or each corner of run j is supplied a normal whose length in f32 is finite and above 1e-20
pub data NormalsApart (missing : Words4) (b c : List ℕ) (r j : ℕ) : Type 0 where
  own : (header_of b).normals ≡ false → le (crease_angle b) zero_f ≡ true → NormalsApart missing b c r j
  apart : (header_of b).normals ≡ false
      → ((p : ℕ) → names (run_in b j).items p ≡ true → (names (run_in b r).items p ≡ false) × (names (run_in c r).items p ≡ false))
      → NormalsApart missing b c r j
  supplied : (header_of b).normals ≡ true → All (λ (q : Corner). Usable q.given) (get_or (faces_of missing (rest_of b) (coord_in b)) j [])
      → NormalsApart missing b c r j

-- FORMAT 13: what S, made of b, and T, made of c, share of run j, corner by corner of its triangles: source point, and the words of position, colour and texture;
-- and of the normal
pub record SameTriangles (missing : Words4) (b c : List ℕ) (S T : Slices) (r j : ℕ) : Type 0 where
  pub corners : map (shown_at S) (run_part b S.indices j) ≡ map (shown_at T) (run_part c T.indices j)
  pub normals : NormalsApart missing b c r j → map (normal_at S) (run_part b S.indices j) ≡ map (normal_at T) (run_part c T.indices j)

-- FORMAT 13: the indices are the parts of the runs, in the order of their numbers: three for each triangle, and none where a run names a point beyond the list
pub record Parts (bs indices : List ℕ) : Type 0 where
  pub whole : join_n (λ (j : ℕ) (r : Run). run_part bs indices j) 0 (runs_in bs) ≡ indices
  pub long : (j : ℕ) → j < length (runs_in bs) → length (run_part bs indices j) ≡ 3 * triangles (point_count (rest_of bs).head) (run_in bs j).items
  pub beyond : (j p : ℕ) → names (run_in bs j).items p ≡ true → point_count (rest_of bs).head ≤ p → run_part bs indices j ≡ []

-- FORMAT 13: the face numbers agree, and every other face has the same triangles in S, made of b, and in T, made of c; every index names a vertex that was made
pub record OthersStay (missing : Words4) (b c : List ℕ) (S T : Slices) (r : ℕ) : Type 0 where
  pub numbers : length (runs_in b) ≡ length (runs_in c)
  pub others : (j : ℕ) → j < length (runs_in b) → j ≢ r → SameTriangles missing b c S T r j
  pub parts_b : Parts b S.indices
  pub parts_c : Parts c T.indices
  pub within_b : All (λ (v : ℕ). v < length S.sources) S.indices
  pub within_c : All (λ (v : ℕ). v < length T.sources) T.indices
