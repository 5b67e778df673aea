-- FORMAT 3, 4: the sizes of an accepted triangle, fan, strip or quad set, and its plan.
use mathlib.Core.Path.{◌≡◌, refl, ◌∙◌}
use mathlib.Core.List.{List}
use Prim.Native.Nat.{ℕ, ◌≤◌}
use native.Mathlib.Omega.{arith}
use Rattle.bits.specs.Bits.{entries}
use Rattle.block.specs.declared.kind.Kind.TheVariants.{Primitives}
use Rattle.block.specs.declared.header.Header.{Header}
use Rattle.block.specs.declared.settings.Settings.{Settings}
use Rattle.block.specs.declared.topology.Topology.{Topology}
use Rattle.block.specs.Extents.{list_bytes}
use Rattle.block.proofs.Table.{count_low}
use Rattle.block.proofs.ExtentLaws.{widths_of}
use Rattle.primitives.proofs.Closed.{listing_faces, listing_corners}
use Rattle.mesh.specs.Mesh.{Slices}
use Rattle.mesh.specs.Sizes.{listed_runs, primitive_sizes, sizes_of}
use Rattle.mesh.specs.FaceSet.{point_count}
use Rattle.tables.specs.declared.layout.Plan.{Plan}
use Rattle.lent.specs.Lent.{Asked}
use Rattle.sizes.specs.Known.{primitive_faces, faces_in}
use Rattle.primitiveset.specs.Passing.{Planned}
use Rattle.facesetshape.specs.Shape.{run_plan}
use Rattle.facesetshape.proofs.Bounds.{RunSized, roomy, coord_few}

module _ {g : Topology} {bs : List ℕ} {h : Header} {s : Settings} {o : Slices} {w f : ℕ} (A : Asked (Primitives g) bs h s o w f) where
  pub sized : RunSized bs h (listed_runs g bs h)
  unfolding sizes_of primitive_sizes faces_in primitive_faces
  sized = record { sizes = rw A.kind refl; faces = rw A.kind refl }

  -- the number of a point ends no run
  pub points_low : point_count h ≤ 0x8000_0000
  points_low = omega (arith, count_low A.accepted.taken 0)

  pub planned : {t : Plan} → t ≡ run_plan (point_count h) (listed_runs g bs h) → {coord : List ℕ} → coord ≡ list_bytes bs h 1 → Planned (point_count h) g coord w t
  planned e c =
      let G = roomy A sized e in
      rw c
      (record {
        room = G.room;
        spots = G.spots;
        faces = G.faces ∙ listing_faces points_low g (entries (list_bytes bs h 1));
        count = G.count ∙ listing_corners points_low g (entries (list_bytes bs h 1));
        few = coord_few A (widths_of h A.kind);
      })
