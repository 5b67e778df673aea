-- FORMAT 13: of two calls on blocks that are equal but inside one run, whatever their slices held before, the elements that each made show the same triangles in
-- every other run.
use mathlib.Core.Path.{◌≡◌, sym, ap, ◌∙◌, subst}
use mathlib.Core.Bool.{not, cond}
use mathlib.Core.List.{List, [], map, map-map}
use Prim.Native.Nat.{ℕ, ◌*◌}
use lib.ListN.{get_or, take, drop}
use Rattle.lists.proofs.Cuts.{part_where}
use Rattle.bits.specs.declared.Words4.{Words4}
use Rattle.block.specs.declared.header.Header.{Header}
use Rattle.block.specs.declared.kind.Kind.{Kind}
use Rattle.block.specs.declared.kind.Kind.TheVariants.{FaceSet}
use Rattle.block.specs.Kind.{by_kind, is_lines}
use Rattle.block.specs.Header.{header_of}
use Rattle.mesh.specs.Mesh.{Slices, slices_of, Shown, shown_at, normal_at}
use Rattle.mesh.specs.FaceSet.{face_set_mesh}
use Rattle.mesh.specs.Lines.{line_set_mesh}
use Rattle.mesh.specs.Grid.{grid_mesh}
use Rattle.mesh.specs.Extrusion.{extrusion_mesh}
use Rattle.mesh.specs.Primitives.{primitive_mesh}
use Rattle.mesh.specs.Result.{block_mesh, makes_colours, makes_textures, made_of, made}
use Rattle.mesh.specs.OneRun.{OneRun, run_part, OthersStay}
use Rattle.mesh.proofs.Bytes.{heads}
use Rattle.mesh.proofs.OneRun.{one_run}
use Rattle.geometry.specs.declared.answer.Call.{Call}
use Rattle.geometry.specs.Apart.{AcceptedCall, elements_of}
use Rattle.geometry.proofs.Made.{elements_made}

-- ---- what the definition makes of a face set

face_set_made : (missing : Words4) (bs : List ℕ) → (header_of bs).kind ≡ FaceSet → made missing bs ≡ made_of (header_of bs) (slices_of (face_set_mesh missing bs))
unfolding made block_mesh
face_set_made missing bs is_face_set =
    ap (λ (k : Kind). made_of (header_of bs) (slices_of (by_kind k (face_set_mesh missing bs) (line_set_mesh missing bs) (grid_mesh missing bs) (extrusion_mesh bs) (λ g. primitive_mesh missing g bs)))) is_face_set

-- ---- what is made of a mesh shows the same at a corner as the mesh, but for what is not made

-- FORMAT 5, 13
abbrev where_made : Header → Shown → Shown
where_made h s =
    record {
      source = s.source;
      position = s.position;
      colour = cond (makes_colours h) s.colour [];
      texture = cond (makes_textures h) s.texture [];
    }

module _ (h : Header) where
  shown_made : (S : Slices) (v : ℕ) → shown_at (made_of h S) v ≡ where_made h (shown_at S v)
  unfolding made_of shown_at
  shown_made S v = λ i. record {
    source = get_or S.sources v 0;
    position = take 3 (drop (3 * v) S.positions);
    colour = part_where (makes_colours h) 4 (4 * v) S.colours i;
    texture = part_where (makes_textures h) 2 (2 * v) S.textures i;
  }

  shown_at_lem : (S : Slices) (l : List ℕ) → map (shown_at (made_of h S)) l ≡ map (where_made h) (map (shown_at S) l)
  shown_at_lem S l = (λ i. map (λ (v : ℕ). shown_made S v i) l) ∙ sym (map-map (where_made h) (shown_at S) l)

  -- FORMAT 5: of a face set the normals are always made
  normals_made : h.kind ≡ FaceSet → (S : Slices) (l : List ℕ) → map (normal_at (made_of h S)) l ≡ map (normal_at S) l
  unfolding made_of normal_at
  normals_made is_face_set S l = ap (λ (k : Kind). map (λ (v : ℕ). take 3 (drop (3 * v) (cond (not (is_lines k)) S.normals []))) l) is_face_set

  others_made : {missing : Words4} {b c : List ℕ} {S T : Slices} {r : ℕ} → h.kind ≡ FaceSet → OthersStay missing b c S T r → OthersStay missing b c (made_of h S) (made_of h T) r
  unfolding made_of
  others_made {missing} {b} {c} {S} {T} {r} is_face_set O = record {
    numbers = O.numbers;
    others = λ j l ne.
        let s = run_part b S.indices j in
        let t = run_part c T.indices j in
        record {
          corners = shown_at_lem S s ∙ ap (map (where_made h)) (O.others j l ne).corners ∙ sym (shown_at_lem T t);
          normals = λ n. normals_made is_face_set S s ∙ (O.others j l ne).normals n ∙ sym (normals_made is_face_set T t);
        };
    parts_b = O.parts_b;
    parts_c = O.parts_c;
    within_b = O.within_b;
    within_c = O.within_c;
  }

-- FORMAT 13: b is a face set and c is equal to it but inside run r; x and y are any two calls on them, under one `Call`, that were not refused
pub apart : {call : Call} (b c : List ℕ) (r : ℕ) → (header_of b).kind ≡ FaceSet → OneRun b c r → (x : AcceptedCall call b) (y : AcceptedCall call c)
    → OthersStay call.colour b c (elements_of x) (elements_of y) r
apart {call} b c r is_face_set h x y =
    let e : header_of b ≡ header_of c = heads b c r h in
    let O = others_made (header_of b) is_face_set (one_run call.colour b c r h) in
    let p = elements_made b x ∙ face_set_made call.colour b is_face_set in
    let q = elements_made c y ∙ face_set_made call.colour c (ap (λ (g : Header). g.kind) (sym e) ∙ is_face_set) ∙ ap (λ (g : Header). made_of g (slices_of (face_set_mesh call.colour c))) (sym e) in
    subst (λ (w : Slices × Slices). OthersStay call.colour b c w.0 w.1 r) (λ i. (sym p i, sym q i)) O
