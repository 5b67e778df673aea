-- Blocks of two faces, computed: for each of the three conditions a pair of blocks that meets it, and what the theorem then says of the first face.
use mathlib.Core.Path.{◌≡◌, refl, sym, ap, ◌∙◌}
use mathlib.Core.Bool.{Bool, true, false, not, ◌&&◌, ◌||◌, true≢false}
use mathlib.Core.List.{List, [], ◌∷◌, ◌++◌, map}
use Prim.Native.Nat.{ℕ}
use native.Mathlib.Omega.{arith}
use borrow.Author.Tests.{eqb-true, not-true}
use lib.Dec.{T, lit<, eqb}
use lib.Ieee.{of_bits, add, mul, le, lt}
use lib.Ieee.Fits.{and_l, and_r}
use Rattle.lists.specs.Loops.{tab}
use Rattle.bits.specs.Bits.{field, entries, bytes_of}
use Rattle.math.specs.Vector.{vlen}
use Rattle.math.specs.SquareRoot.{root_of}
use Rattle.block.specs.Edition.{edition1, edition_of}
use Rattle.block.specs.Header.{counts_of, header_of}
use Rattle.block.specs.Extents.{widths, words_in, list_at, list_size, place_of}
use Rattle.block.specs.Runs.{ends_run, runs_from, kept}
use Rattle.block.specs.Stream.{itself, chosen, number_in, number_at}
use Rattle.block.specs.Value.{value_at}
use Rattle.lists.specs.Lists.{map_n, flat, all_below}
use Rattle.mesh.specs.Words.{no4}
use Rattle.mesh.specs.Mesh.{slices_of, normal_at}
use Rattle.mesh.specs.FaceSet.{rest_of, coord_in, runs_in, normal_of, corner_by, corner_of, face_of, faces_of, face_set_mesh}
use Rattle.mesh.specs.OneRun.{byte_of, OneRun, run_part, names, NormalsApart, own, apart, supplied}
use Rattle.lists.proofs.Lists.{T_true}
use Rattle.mesh.proofs.OneRun.{one_run}
use Rattle.mesh.proofs.Sample.{end, w1}

-- ---- that no point of one run is named by another, as a test

abbrev clear : List ℕ → List ℕ → Bool
clear [] ws = true
clear (e ∷ es) ws = not (names ws e) && clear es ws

clear_apart : (es ws : List ℕ) → T (clear es ws) → (p : ℕ) → names es p ≡ true → names ws p ≡ false
unfolding names
clear_apart [] ws t p h = absurd (true≢false (sym h))
clear_apart (e ∷ es) ws t p h = go (eqb e p) refl h (clear_apart es ws (and_r (not (names ws e)) (clear es ws) t) p)
  where
    go : (b : Bool) → eqb e p ≡ b → (b || names es p) ≡ true → (names es p ≡ true → names ws p ≡ false) → names ws p ≡ false
    go true q k below = ap (names ws) (sym (eqb-true e p q)) ∙ not-true (names ws e) (T_true (not (names ws e)) (and_l (not (names ws e)) (clear es ws) t))
    go false q k below = below k

-- ---- the blocks

-- six points, two runs: 0 1 2, and one of three entries; no colours and no texture
abbrev block : List ℕ → ℕ → ℕ → List ℕ → List ℕ → List ℕ
block head angle cosine run normals =
    head
    ++ bytes_of
    ((angle ∷ cosine ∷ w1 ∷ w1 ∷ 0 ∷ 0 ∷ 0 ∷ w1 ∷ w1 ∷ w1 ∷ 0 ∷ 0 ∷ [])
    ++ ((0 ∷ 0 ∷ 0 ∷ w1 ∷ 0 ∷ 0 ∷ 0 ∷ w1 ∷ 0 ∷ 0 ∷ 0 ∷ w1 ∷ w1 ∷ 0 ∷ w1 ∷ 0 ∷ w1 ∷ w1 ∷ [])
    ++ ((0 ∷ 1 ∷ 2 ∷ end ∷ []) ++ (run ++ (end ∷ normals)))))

-- ccw, convex, solid; without normals, and with a normal for each face, of which one is listed
abbrev bare : List ℕ
bare = 17 ∷ 192 ∷ 0 ∷ 1 ∷ 128 ∷ 8 ∷ 0 ∷ 0 ∷ 0 ∷ 0 ∷ 0 ∷ 0 ∷ 0 ∷ 0 ∷ 0 ∷ 0 ∷ 0 ∷ 0 ∷ 0 ∷ 0 ∷ []

abbrev furnished : List ℕ
furnished = 17 ∷ 192 ∷ 128 ∷ 1 ∷ 128 ∷ 8 ∷ 0 ∷ 0 ∷ 0 ∷ 0 ∷ 0 ∷ 64 ∷ 0 ∷ 0 ∷ 0 ∷ 0 ∷ 0 ∷ 0 ∷ 0 ∷ 0 ∷ []

-- a run that shares an edge with the first, or nothing; and the same with an entry that names no point, so that it is skipped: -7, and a number too large
abbrev pub beside : List ℕ
beside = 1 ∷ 3 ∷ 2 ∷ []

abbrev pub beside' : List ℕ
beside' = 1 ∷ 0xffff_fff9 ∷ 2 ∷ []

abbrev pub away : List ℕ
away = 3 ∷ 4 ∷ 5 ∷ []

abbrev pub away' : List ℕ
away' = 3 ∷ 9 ∷ 5 ∷ []

-- crease angle 0; a quarter of π, and its cosine
abbrev pub flat_block : List ℕ → List ℕ
flat_block run = block bare 0 w1 run []

abbrev pub smooth_block : List ℕ → List ℕ
smooth_block run = block bare 0x3f49_0fdb 0x3f35_04f3 run []

abbrev pub supplied_block : List ℕ → List ℕ
supplied_block run = block furnished 0x3f49_0fdb 0x3f35_04f3 run (0 ∷ w1 ∷ 0 ∷ [])

-- ---- what is asked of each pair

pub pairs : OneRun (flat_block beside) (flat_block beside') 1 × OneRun (smooth_block away) (smooth_block away') 1 × OneRun (supplied_block beside) (supplied_block beside') 1
unfolding runs_in coord_in place_of list_at list_size widths words_in header_of counts_of edition_of edition1 field entries tab runs_from ends_run byte_of flat
pairs = (
  record { in_b = lit< tt; in_c = lit< tt; place = refl; long = refl; fore = refl; aft = refl },
  record { in_b = lit< tt; in_c = lit< tt; place = refl; long = refl; fore = refl; aft = refl },
  record { in_b = lit< tt; in_c = lit< tt; place = refl; long = refl; fore = refl; aft = refl },
)

pub conditions : NormalsApart no4 (flat_block beside) (flat_block beside') 1 0
    × NormalsApart no4 (smooth_block away) (smooth_block away') 1 0
    × NormalsApart no4 (supplied_block beside) (supplied_block beside') 1 0
unfolding runs_in coord_in place_of list_at list_size widths words_in header_of counts_of edition_of edition1 field entries tab runs_from ends_run flat rest_of le of_bits names faces_of face_of corner_of corner_by normal_of number_at number_in chosen itself value_at kept all_below map_n vlen root_of add mul lt
conditions = (
  own refl refl,
  apart refl (λ p h. (clear_apart (0 ∷ 1 ∷ 2 ∷ []) away tt p h, clear_apart (0 ∷ 1 ∷ 2 ∷ []) away' tt p h)),
  supplied refl (tt, (tt, (tt, tt))),
)

-- ---- so the first face has the same normals in both blocks of each pair

abbrev SameNormals : List ℕ → List ℕ → Type 0
SameNormals b c =
    let S = slices_of (face_set_mesh no4 b) in
    let T = slices_of (face_set_mesh no4 c) in
    map (normal_at S) (run_part b S.indices 0) ≡ map (normal_at T) (run_part c T.indices 0)

first_run : (b c : List ℕ) → OneRun b c 1 → NormalsApart no4 b c 1 0 → SameNormals b c
first_run b c h n = ((one_run no4 b c 1 h).others 0 (let l = h.in_b in omega arith) (λ e. let z : ⊥ = omega arith in z)).normals n

pub same_normals : SameNormals (flat_block beside) (flat_block beside') × SameNormals (smooth_block away) (smooth_block away') × SameNormals (supplied_block beside) (supplied_block beside')
same_normals = (
  first_run (flat_block beside) (flat_block beside') pairs.0 conditions.0,
  first_run (smooth_block away) (smooth_block away') pairs.1 conditions.1,
  first_run (supplied_block beside) (supplied_block beside') pairs.2 conditions.2,
)
