-- FORMAT 4, 14: how many vertices and indices a mesh has, by the sizes of its block; and by the slices that the program lends.
use Prim.Native.Nat.{ℕ, zero, suc, ◌≤◌}
use mathlib.Core.Path.{◌≡◌, refl, sym, ap, ◌∙◌, subst}
use mathlib.Core.List.{List}
use native.Mathlib.Omega.{arith}
use lib.ListN.{length, length-map}
use Rattle.bits.specs.declared.Words4.{Words4}
use Rattle.block.specs.declared.kind.Kind.{Kind}
use Rattle.block.specs.declared.kind.Kind.TheVariants.{FaceSet, LineSet, Grid, Extrusion, Primitives}
use Rattle.block.specs.declared.topology.Topology.{Topology}
use Rattle.block.specs.Kind.{by_kind}
use Rattle.block.specs.Header.{header_of}
use Rattle.lists.specs.Lists.{total}
use Rattle.mesh.specs.Soup.{Face, Frame}
use Rattle.mesh.specs.Vertices.{Key, vertices, width}
use Rattle.mesh.specs.Mesh.{Mesh, mesh_of, mesh}
use Rattle.mesh.specs.FaceSet.{rest_of, coord_in, runs_in, face_set_mesh, convex_frame}
use Rattle.mesh.specs.Lines.{line_vertices, line_faces, line_frame, lines_of, line_set_mesh}
use Rattle.mesh.specs.Grid.{grid_of, grid_faces, grid_mesh}
use Rattle.mesh.specs.Extrusion.{extrusion_of, extrusion_faces, extrusion_frame, extrusion_mesh}
use Rattle.mesh.specs.Sizes.{Sizes, face_set_sizes, line_set_sizes, grid_sizes, extrusion_sizes, primitive_sizes, sizes_of}
use Rattle.mesh.specs.Primitives.{primitive_mesh}
use Rattle.mesh.specs.Result.{block_mesh, result_of}
use Rattle.mesh.proofs.Facts.{length_indices, length_vertices, face_set_indices, face_set_vertices}
use Rattle.mesh.proofs.Primitives.{primitive_vertices, primitive_indices}
use Rattle.mesh.proofs.LineSoup.{line_soup}
use Rattle.mesh.proofs.Sizes.{line_set_corners, line_set_indices, grid_corners, grid_indices, extrusion_corners, extrusion_indices}
use Rattle.lent.specs.Answer.{Saying, refused, made, said}
use Rattle.geometry.specs.Answer.{result_for}
use Rattle.geometry.proofs.Refusing.{asked_of}
use Rattle.answer.specs.Lending.{passed, fresh, number}

-- FORMAT 4: at most C vertices, and N indices
pub record Sized (M : Mesh) (z : Sizes) : Type 0 where
  pub vertices : length M.sources ≤ z.corners
  pub indices : length M.indices ≡ z.indices

soup_sized : (F : Frame) (fs : List Face) (z : Sizes) → total length fs ≡ z.corners → total width fs ≡ z.indices → Sized (mesh F fs) z
unfolding mesh mesh_of
soup_sized F fs z c n = record {
  vertices = omega (arith, length-map (vertices F fs) (λ (k : Key). k.point), length_vertices F fs, c);
  indices = length_indices F fs (vertices F fs) ∙ n;
}

module _ (missing : Words4) (bs : List ℕ) where
  face_set_sized : Sized (face_set_mesh missing bs) (face_set_sizes bs (header_of bs))
  unfolding face_set_sizes rest_of runs_in coord_in
  face_set_sized = record { vertices = face_set_vertices missing bs; indices = face_set_indices missing bs }

  line_set_sized : Sized (line_set_mesh missing bs) (line_set_sizes bs (header_of bs))
  unfolding line_set_mesh lines_of
  line_set_sized =
      let R = rest_of bs in
      let coord = coord_in bs in
      let e : length (line_vertices missing R coord) ≡ length (vertices (line_frame R) (line_faces missing R coord)) = ap length (sym (line_soup missing R coord)) in
      record {
        vertices = omega (arith, length-map (line_vertices missing R coord) (λ (k : Key). k.point), e, length_vertices (line_frame R) (line_faces missing R coord), line_set_corners missing bs);
        indices = line_set_indices missing bs;
      }

  grid_sized : Sized (grid_mesh missing bs) (grid_sizes (header_of bs))
  unfolding grid_mesh
  grid_sized = soup_sized (convex_frame (grid_of bs)) (grid_faces missing (grid_of bs)) (grid_sizes (header_of bs)) (grid_corners missing bs) (grid_indices missing bs)

  extrusion_sized : Sized (extrusion_mesh bs) (extrusion_sizes bs (header_of bs))
  unfolding extrusion_mesh
  extrusion_sized =
      soup_sized (extrusion_frame (extrusion_of bs)) (extrusion_faces (extrusion_of bs)) (extrusion_sizes bs (header_of bs)) (extrusion_corners bs) (extrusion_indices bs)

  primitive_sized : (g : Topology) → Sized (primitive_mesh missing g bs) (primitive_sizes g bs (header_of bs))
  unfolding primitive_sizes rest_of coord_in
  primitive_sized g = record { vertices = primitive_vertices missing g bs; indices = primitive_indices missing g bs }

  pub block_sized : Sized (block_mesh missing bs) (sizes_of bs (header_of bs))
  unfolding block_mesh sizes_of
  block_sized = go (header_of bs).kind
    where
      go : (k : Kind)
          → Sized (by_kind k (face_set_mesh missing bs) (line_set_mesh missing bs) (grid_mesh missing bs) (extrusion_mesh bs) (λ g. primitive_mesh missing g bs))
          (by_kind k (face_set_sizes bs (header_of bs)) (line_set_sizes bs (header_of bs)) (grid_sizes (header_of bs)) (extrusion_sizes bs (header_of bs)) (λ g. primitive_sizes g bs (header_of bs)))
      go FaceSet = face_set_sized
      go LineSet = line_set_sized
      go Grid = grid_sized
      go Extrusion = extrusion_sized
      go (Primitives g) = primitive_sized g

-- FORMAT 14: of a block that the program does not refuse
few : (bs : List ℕ) → number bs ≡ 0 → ((result_for passed bs).vertices ≤ 256) × ((result_for passed bs).indices ≤ 768)
unfolding result_for result_of fresh
few bs e =
    let E = (asked_of bs fresh e).enough in
    let S = block_sized passed.colour bs in
    (omega (arith, E.sources, S.vertices), omega (arith, E.indices, S.indices))

-- of what an answer says
abbrev pub Few : Saying → Type 0
Few (refused n) = Unit {0}
Few (made r) = (r.vertices ≤ 256) × (r.indices ≤ 768)

pub said_few : (bs : List ℕ) (s : Saying) → s ≡ said (number bs) (result_for passed bs) → Few s
said_few bs s e = subst Few (sym e) (go (number bs) refl)
  where
    go : (n : ℕ) → number bs ≡ n → Few (said n (result_for passed bs))
    go zero z = few bs z
    go (suc n) z = tt
