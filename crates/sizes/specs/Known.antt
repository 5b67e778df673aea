-- FORMAT 3, 4: a block that the rows 1 to 6 and 9 of the table let pass, and its sizes as the code returns them.
use Rattle.std.specs.Prelude.{◌≡◌, false, List, ℕ, ◌≤◌, get_or}
use Rattle.block.specs.Edition.{most}
use Rattle.block.specs.declared.header.Header.{Header}
use Rattle.block.specs.Header.{header_of}
use Rattle.block.specs.declared.topology.Topology.{Topology}
use Rattle.block.specs.Kind.{by_kind}
use Rattle.block.specs.Refusal.{Taken}
use Rattle.block.specs.Runs.{faces, sum_over}
use Rattle.mesh.specs.Sizes.{Sizes as Defined, coord_runs, listed_runs, sizes_of, is_no_shape}
use Rattle.mesh.specs.FaceSet.{point_count}
use Rattle.sizes.specs.declared.kinds.Sizes.{Sizes}

-- FORMAT 3: h is the block's header, and none of the rows 1 to 6 and 9 holds
pub record Known (bs : List ℕ) (h : Header) : Type 0 where
  pub header : h ≡ header_of bs
  pub taken : Taken bs h
  pub shape : is_no_shape h ≡ false

-- FORMAT 2.4, 3: the first two counts of a grid or an extrusion that was not refused
pub record Sides (h : Header) : Type 0 where
  pub long : 2 ≤ get_or h.counts 0 0
  pub wide : 2 ≤ get_or h.counts 1 0
  pub length_few : get_or h.counts 0 0 ≤ most
  pub width_few : get_or h.counts 1 0 ≤ most

-- FORMAT 6.2, 6.4: how many faces of a face set, and how many primitives, are kept; of a block of any kind, 0 where it has neither
unfoldable pub set_faces : List ℕ → Header → ℕ
set_faces bs h = sum_over (faces (point_count h)) (coord_runs bs h)

unfoldable pub primitive_faces : Topology → List ℕ → Header → ℕ
primitive_faces g bs h = sum_over (faces (point_count h)) (listed_runs g bs h)

unfoldable pub faces_in : List ℕ → Header → ℕ
faces_in bs h = by_kind h.kind (set_faces bs h) 0 0 0 (λ g. primitive_faces g bs h)

-- FORMAT 4: r has the P, C and N of z, and f faces
pub record Are (z : Defined) (f : ℕ) (r : Sizes) : Type 0 where
  pub points : r.points ≡ z.points
  pub corners : r.corners ≡ z.corners
  pub indices : r.indices ≡ z.indices
  pub faces : r.faces ≡ f

-- FORMAT 4: r is what is counted of the block
abbrev pub Counted : List ℕ → Header → Sizes → Type 0
Counted bs h r = Are (sizes_of bs h) (faces_in bs h) r
