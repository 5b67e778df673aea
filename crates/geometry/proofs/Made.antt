-- FORMAT 5: the elements that a call made, of any kind and whatever its slices held before, are those that the definition makes of its block.
use mathlib.Core.Path.{◌≡◌, refl, sym, ap, ◌∙◌, subst}
use mathlib.Core.Bool.{Bool, true, false, not, ◌||◌, cond, true≢false}
use mathlib.Core.List.{List, [], map}
use Prim.Native.Nat.{ℕ, zero, suc, ◌*◌}
use native.Mathlib.Omega.{arith}
use lib.ListN.{length, take, drop, length-map}
use lib.Seq.{take_at}
use Rattle.bits.specs.declared.Words4.{Words4}
use Rattle.block.specs.declared.header.Header.{Header}
use Rattle.block.specs.declared.kind.Kind.{Kind}
use Rattle.block.specs.declared.kind.Kind.TheVariants.{FaceSet, LineSet, Grid, Extrusion, Primitives}
use Rattle.block.specs.Kind.{by_kind, is_lines}
use Rattle.block.specs.Header.{header_of}
use Rattle.lists.proofs.Lists.{length_words}
use Rattle.mesh.specs.Words.{words3, words4, point_words}
use Rattle.mesh.specs.Soup.{Face, Frame}
use Rattle.mesh.specs.Vertices.{Key, vertices, indices_of}
use Rattle.mesh.specs.Mesh.{Mesh, mesh_of, mesh, Slices, slices_of, over, over_all}
use Rattle.mesh.specs.FaceSet.{Rest, rest_of, coord_in, face_set_mesh}
use Rattle.mesh.specs.Lines.{line_vertices, lines_of, line_set_mesh}
use Rattle.mesh.specs.Grid.{grid_mesh}
use Rattle.mesh.specs.Extrusion.{extrusion_mesh}
use Rattle.mesh.specs.Primitives.{primitive_mesh}
use Rattle.mesh.specs.Result.{Result, block_mesh, makes_normals, makes_colours, makes_textures, made_of, made, result_of}
use Rattle.mesh.proofs.Facts.{Sized, slices_sized}
use Rattle.std.specs.Prelude.{Ok}
use Rattle.geometry.specs.declared.answer.Call.{Call}
use Rattle.lent.specs.declared.answer.Report.{Report}
use Rattle.lent.specs.Answer.{saying, said, after_all}
use Rattle.geometry.specs.Answer.{result_for}
use Rattle.geometry.specs.Converted.{number_for}
use Rattle.geometry.specs.Apart.{AcceptedCall, elements, elements_of}
use Rattle.geometry.proofs.Calls.{number_in, result_in}

-- ---- what is answered by a mesh is not refused, and its counts are those of the mesh

not_refused : (p : Report) (n : ℕ) (r : Result) → saying (Ok p) ≡ said n r → n ≡ 0
not_refused p zero r e = refl
not_refused p (suc n) r e = absurd (let z : 0 ≡ suc (suc n) = ap number_in e in omega arith)

result_said : (p : Report) (n : ℕ) (r : Result) → n ≡ 0 → saying (Ok p) ≡ said n r → result_in r (saying (Ok p)) ≡ r
result_said p n r z e = ap (result_in r) (e ∙ ap (λ (k : ℕ). said k r) z)

-- ---- the front of a slice after such a call is what was made

front : (n : ℕ) (new held left : List ℕ) → length new ≡ n → left ≡ over new held → take n left ≡ new
front n new held left long e = ap (take n) e ∙ take_at new (drop (length new) held) n long

-- of an attribute, where made
front_where : (b : Bool) (n : ℕ) (new held left : List ℕ) → (b ≡ true → length new ≡ n) → left ≡ over (cond b new []) held
    → cond b (take n left) [] ≡ cond b new []
front_where true n new held left long e = front n new held left (long refl) e
front_where false n new held left long e = refl

-- ---- FORMAT 4: how long the slices of a mesh are, where made

record Long (h : Header) (S : Slices) (n : ℕ) : Type 0 where
  sources : length S.sources ≡ n
  positions : length S.positions ≡ 3 * n
  normals : makes_normals h ≡ true → length S.normals ≡ 3 * n
  colours : length S.colours ≡ 4 * n
  textures : makes_textures h ≡ true → length S.textures ≡ 2 * n

abbrev LongMesh : Header → Mesh → Type 0
LongMesh h M = Long h (slices_of M) (length M.sources)

-- of a soup all are
soup_long : (h : Header) (F : Frame) (fs : List Face) → LongMesh h (mesh F fs)
unfolding mesh mesh_of
soup_long h F fs =
    let vs = vertices F fs in
    let S = subst (Sized (slices_of (mesh F fs))) (sym (length-map vs (λ (k : Key). k.point))) (slices_sized F vs (indices_of F fs vs)) in
    record {
      sources = S.sources;
      positions = S.positions;
      normals = λ t. S.normals;
      colours = S.colours;
      textures = λ t. S.textures;
    }

-- a line set makes no normals and no texture
lines_long : (h : Header) → h.kind ≡ LineSet → (missing : Words4) (R : Rest) (coord : List ℕ) → LongMesh h (lines_of missing R coord)
unfolding lines_of slices_of
lines_long h e missing R coord =
    let vs = line_vertices missing R coord in
    let n = length-map vs (λ (k : Key). k.point) in
    record {
      sources = refl;
      positions = length_words words3 3 (λ x. refl) (map (λ (k : Key). point_words R.points k.point) vs)
          ∙ ap (λ (n : ℕ). 3 * n) (length-map vs (λ (k : Key). point_words R.points k.point) ∙ sym n);
      normals = λ t. absurd (true≢false (sym t ∙ ap (λ (k : Kind). not (is_lines k)) e));
      colours = length_words words4 4 (λ x. refl) (map (λ (k : Key). k.colour) vs) ∙ ap (λ (n : ℕ). 4 * n) (length-map vs (λ (k : Key). k.colour) ∙ sym n);
      textures = λ t. absurd (true≢false (sym t ∙ ap
          (λ (k : Kind). by_kind k (h.need_uvs || h.texture_points) false (h.need_uvs || h.texture_points) h.need_uvs (λ g. h.need_uvs || h.texture_points)) e));
    }

-- FORMAT 8: by kind
block_long : (missing : Words4) (bs : List ℕ) → LongMesh (header_of bs) (block_mesh missing bs)
unfolding block_mesh face_set_mesh line_set_mesh grid_mesh extrusion_mesh primitive_mesh
block_long missing bs = go (header_of bs).kind refl
  where
    go : (k : Kind) → (header_of bs).kind ≡ k
        → LongMesh (header_of bs) (by_kind k (face_set_mesh missing bs) (line_set_mesh missing bs) (grid_mesh missing bs) (extrusion_mesh bs) (λ g. primitive_mesh missing g bs))
    go FaceSet e = soup_long (header_of bs) _ _
    go LineSet e = lines_long (header_of bs) e missing (rest_of bs) (coord_in bs)
    go Grid e = soup_long (header_of bs) _ _
    go Extrusion e = soup_long (header_of bs) _ _
    go (Primitives g) e = soup_long (header_of bs) _ _

-- ---- the elements that a call made

module _ {call : Call} (bs : List ℕ) (x : AcceptedCall call bs) where
  abbrev M : Mesh
  M = block_mesh call.colour bs

  accepted : number_for bs x.lent ≡ 0
  accepted = not_refused x.report (number_for bs x.lent) (result_for call bs) x.converted.answer

  result_is : result_in (result_for call bs) (saying (Ok x.report)) ≡ result_of (header_of bs) M
  unfolding result_for
  result_is = result_said x.report (number_for bs x.lent) (result_for call bs) accepted x.converted.answer

  vertices_are : x.report.vertices ≡ length M.sources
  unfolding result_of
  vertices_are = ap (λ (r : Result). r.vertices) result_is

  indices_are : x.report.indices ≡ length M.indices
  unfolding result_of
  indices_are = ap (λ (r : Result). r.indices) result_is

  long : Long (header_of bs) (slices_of M) x.report.vertices
  long = subst (Long (header_of bs) (slices_of M)) (sym vertices_are) (block_long call.colour bs)

  left_is : x.left.slices ≡ over_all (made_of (header_of bs) (slices_of M)) x.lent.slices
  unfolding made
  left_is = x.converted.slices ∙ ap (λ (k : ℕ). after_all k (made call.colour bs) x.lent.slices) accepted

  -- one slice, of the attribute that is made where b holds
  slice_made : (f : Slices → List ℕ) (b : Bool) (n : ℕ) → f (made_of (header_of bs) (slices_of M)) ≡ cond b (f (slices_of M)) [] → (b ≡ true → length (f (slices_of M)) ≡ n)
      → f x.left.slices ≡ over (f (made_of (header_of bs) (slices_of M))) (f x.lent.slices)
      → cond b (take n (f x.left.slices)) [] ≡ f (made_of (header_of bs) (slices_of M))
  slice_made f b n e long c =
      let held = f x.lent.slices in
      front_where b n (f (slices_of M)) held (f x.left.slices) long (c ∙ ap (λ (l : List ℕ). over l held) e) ∙ sym e

  pub elements_made : elements_of x ≡ made call.colour bs
  unfolding elements made made_of slices_of
  elements_made =
      let n = x.report.vertices in
      let h = header_of bs in
      λ i. record {
        sources = slice_made (λ S. S.sources) true n refl (λ t. long.sources) (ap (λ (S : Slices). S.sources) left_is) i;
        positions = slice_made (λ S. S.positions) true (3 * n) refl (λ t. long.positions) (ap (λ (S : Slices). S.positions) left_is) i;
        normals = slice_made (λ S. S.normals) (makes_normals h) (3 * n) refl long.normals (ap (λ (S : Slices). S.normals) left_is) i;
        colours = slice_made (λ S. S.colours) (makes_colours h) (4 * n) refl (λ t. long.colours) (ap (λ (S : Slices). S.colours) left_is) i;
        textures = slice_made (λ S. S.textures) (makes_textures h) (2 * n) refl long.textures (ap (λ (S : Slices). S.textures) left_is) i;
        indices = slice_made (λ S. S.indices) true x.report.indices refl (λ t. sym indices_are) (ap (λ (S : Slices). S.indices) left_is) i;
      }
