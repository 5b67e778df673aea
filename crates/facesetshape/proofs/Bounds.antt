-- FORMAT 3, 4: the sizes of an accepted block whose faces are runs, and its plan; those of a face set.
use mathlib.Core.Path.{◌≡◌, refl, ap, ◌∙◌}
use mathlib.Core.List.{List}
use Prim.Native.Nat.{ℕ, ◌/◌, ◌≤◌}
use native.Mathlib.Omega.{arith}
use lib.ListN.{length}
use Rattle.block.specs.Edition.{most}
use Rattle.block.specs.declared.kind.Kind.{Kind}
use Rattle.block.specs.declared.kind.Kind.TheVariants.{FaceSet}
use Rattle.block.specs.declared.header.Header.{Header}
use Rattle.block.specs.declared.settings.Settings.{Settings}
use Rattle.block.specs.Extents.{set_widths, widths, list_bytes}
use Rattle.block.specs.Runs.{Run, faces, corners, sum_over}
use Rattle.block.proofs.Table.{count_low}
use Rattle.block.proofs.ExtentLaws.{widths_of, size_by, list_length}
use Rattle.mesh.specs.Mesh.{Slices}
use Rattle.mesh.specs.Sizes.{Sizes, coord_runs, run_sizes, face_set_sizes, sizes_of}
use Rattle.mesh.specs.FaceSet.{point_count}
use Rattle.tables.specs.declared.layout.Plan.{Plan}
use Rattle.tables.specs.Layout.{plan_of}
use Rattle.lent.specs.Lent.{Asked}
use Rattle.lent.proofs.Accepts.{low_by}
use Rattle.shaping.specs.Tabled.{Counted, Ample}
use Rattle.shaping.proofs.Room.{ample}
use Rattle.faceset.specs.Passing.{Planned}
use Rattle.sizes.specs.declared.kinds.Sizes.{Sizes as Sized}
use Rattle.sizes.specs.Known.{set_faces, faces_in, Counted as Known}
use Rattle.sizes.proofs.FaceLaws.{faces_third, indices_sum}
use Rattle.facesetshape.specs.Shape.{run_plan}

-- the faces are the kept ones among the runs rs
pub record RunSized (bs : List ℕ) (h : Header) (rs : List Run) : Type 0 where
  pub sizes : sizes_of bs h ≡ run_sizes (point_count h) rs
  pub faces : faces_in bs h ≡ sum_over (faces (point_count h)) rs

module _ {k : Kind} {bs : List ℕ} {h : Header} {s : Settings} {o : Slices} {w f : ℕ} (A : Asked k bs h s o w f) {rs : List Run} (S : RunSized bs h rs) where
  -- the sizes as they were counted
  module _ {z : Sized} (C : Known bs h z) where
    known : (z.points ≡ point_count h) × (z.corners ≡ sum_over (corners (point_count h)) rs) × (z.faces ≡ sum_over (faces (point_count h)) rs)
    known = (C.points ∙ ap (λ (z : Sizes). z.points) S.sizes, C.corners ∙ ap (λ (z : Sizes). z.corners) S.sizes, C.faces ∙ S.faces)

    -- what `plan_of` asks, and what it gives
    pub plan_asked : (z.points ≤ most) × (z.corners ≤ most) × (z.faces ≤ most)
    plan_asked =
        let l = low_by A S.sizes in
        (omega (arith, known.0, l.0), omega (arith, known.1, l.1), omega (arith, known.2, faces_third (point_count h) rs, l.1))

    pub plan_by : {t : Plan} → t ≡ plan_of z.points z.corners z.faces 0 → t ≡ run_plan (point_count h) rs
    unfolding run_plan
    plan_by e = e ∙ λ i. plan_of (known.0 i) (known.1 i) (known.2 i) 0

  module _ {t : Plan} (e : t ≡ run_plan (point_count h) rs) where
    pub counted : Counted (run_sizes (point_count h) rs) (sum_over (faces (point_count h)) rs) 0 t
    unfolding run_plan
    counted = record {
      plan = e;
      third = faces_third (point_count h) rs;
      indices = omega (arith, indices_sum (point_count h) rs);
    }

    pub roomy : Ample (run_sizes (point_count h) rs) (sum_over (faces (point_count h)) rs) 0 t w f
    roomy = ample A S.sizes counted

-- FORMAT 3: no list has more entries than the limit
pub coord_few : {k : Kind} {bs : List ℕ} {h : Header} {s : Settings} {o : Slices} {w f : ℕ} → Asked k bs h s o w f → widths h ≡ set_widths h.alpha → length (list_bytes bs h 1) / 4 ≤ most
coord_few {k} {bs} {h} A v = omega (arith, list_length bs h 1 A.accepted.taken.length_is, size_by h (set_widths h.alpha) 1 v, count_low A.accepted.taken 1)

-- ---- a face set

module _ {bs : List ℕ} {h : Header} {s : Settings} {o : Slices} {w f : ℕ} (A : Asked FaceSet bs h s o w f) where
  pub sized : RunSized bs h (coord_runs bs h)
  unfolding sizes_of face_set_sizes faces_in set_faces
  sized = record { sizes = rw A.kind refl; faces = rw A.kind refl }

  pub planned : {t : Plan} → t ≡ run_plan (point_count h) (coord_runs bs h) → {coord : List ℕ} → coord ≡ list_bytes bs h 1 → Planned (point_count h) coord w t
  planned e c =
      let G = roomy A sized e in
      rw c
      (record {
        room = G.room;
        spots = G.spots;
        faces = G.faces;
        count = G.count;
        few = coord_few A (widths_of h A.kind);
      })
