-- FORMAT 5, 8.2: the vertices of all corners and the lines through their numbers are the mesh of the line set.
use mathlib.Core.Path.{◌≡◌, refl, sym, ap, ◌∙◌, subst}
use mathlib.Core.List.{List, [], map}
use Prim.Native.Nat.{ℕ, ◌+◌, ◌*◌}
use native.Mathlib.Nat.{add-zero, zero-add}
use native.Mathlib.Omega.{arith}
use lib.Ieee.{Float}
use lib.ListN.{length, get_or, length-map}
use Rattle.lists.proofs.Tabs.{length_tab, tab_shift, map_tab, seg_tab}
use Rattle.bits.specs.Bits.{entries}
use Rattle.bits.specs.declared.Words4.{Words4}
use Rattle.block.specs.Runs.{runs, sum_over}
use Rattle.lists.specs.Lists.{join_n, place, firsts}
use Rattle.mesh.specs.Words.{words3, words4, point_words}
use Rattle.mesh.specs.Vertices.{Key, same_key}
use Rattle.mesh.specs.Mesh.{mesh_of, Slices, slices_of}
use Rattle.mesh.specs.FaceSet.{Rest}
use Rattle.mesh.specs.Lines.{line_keys, line_vertices, line_indices, lines_of, line_frame}
use Rattle.mesh.specs.Sizes.{named}
use Rattle.lists.proofs.Lists.{length_words, beyond}
use Rattle.lists.specs.Parts.{seg}
use Rattle.vertices.specs.declared.places.Widths.{Widths}
use Rattle.vertices.specs.Places.{Store}
use Rattle.vertices.specs.Adding.{Holds, made_of}
use Rattle.vertices.proofs.Turns.{store_as}
use Rattle.vertices.proofs.Sliced.{sources_held, positions_held, colours_held, normals_left, colours_left, textures_left}
use Rattle.corners.specs.declared.attributes.Attributes.{Attributes}
use Rattle.corners.specs.declared.laid.CornerTables.{CornerTables}
use Rattle.corners.specs.Laid.{Laid}
use Rattle.corners.specs.Corner.{Lent, key_in}
use Rattle.corners.specs.Cornered.{vertices_in, Cornered}
use Rattle.lines.specs.Steps.{run_pairs, Put}
use Rattle.lent.specs.declared.Counts.{Counts}
use Rattle.lines.specs.Made.{Told, Lined, Done}
use Rattle.lines.proofs.UseKeys.{keys_count}
use Rattle.lines.proofs.Indices.{indices_runs}

abbrev with_indices : Store → List ℕ → Slices
with_indices s is =
    record { sources = s.sources; positions = s.positions; normals = s.normals; colours = s.colours; textures = s.textures; indices = is }

-- what is lent on is the caller's
pub done_as : {L : Lent} {a : Attributes} {widths : Widths} {w : List ℕ} {t : CornerTables} {p : ℕ} {o : Slices} (s : Store) {is w' : List ℕ} {f : List Float}
    {r : Counts} {k l m n q : List ℕ} → Done L a widths w t p o (with_indices s is) w' f r → k ≡ s.sources → l ≡ s.positions → m ≡ s.normals → n ≡ s.colours → q ≡ s.textures
    → Done L a widths w t p o (record { sources = k; positions = l; normals = m; colours = n; textures = q; indices = is }) w' f r
done_as {L} {a} {widths} {w} {t} {p} {o} s {is} {w'} {f} {r} D ek el em en eq =
    subst (λ (s : Store). Done L a widths w t p o (with_indices s is) w' f r) (sym (store_as s ek el em en eq)) D

module _ {missing : Words4} {R : Rest} {L : Lent} {a : Attributes} {widths : Widths} {w : List ℕ} {t : CornerTables} {p : ℕ}
    (T : Told missing R L a widths w t p) where
  pub told_count : t.count ≡ sum_over (named p) (runs (entries L.coord))
  told_count =
      sym (length_tab (key_in L a widths w t) t.count 0) ∙ ap length T.keys ∙ keys_count missing R L.coord
      ∙ ap (λ (q : ℕ). sum_over (named q) (runs (entries L.coord))) T.count

  vertices_are : vertices_in L a widths w t ≡ line_vertices missing R L.coord
  unfolding vertices_in made_of line_vertices
  vertices_are = ap (firsts same_key []) T.keys

  module _ {z : Store} {s : Store} {w' : List ℕ} {n : ℕ} (Q : Laid t (length w)) (C : Cornered L a widths t z w s w' n) where
    vs : List Key
    vs = line_vertices missing R L.coord

    number : Key → ℕ
    number k = place same_key k vs

    numbers_are : seg w' t.named t.count ≡ map number (join_n (line_keys missing R L.coord) 0 (runs (entries L.coord)))
    unfolding number vs
    numbers_are =
        let K = key_in L a widths w t in
        ap (λ (k : ℕ). seg w' k t.count) (sym (add-zero t.named))
        ∙ seg_tab w' t.named t.count 0 (omega (arith, C.kept.len))
        ∙ tab_shift (λ (j : ℕ). get_or w' (t.named + j) 0) (λ (j : ℕ). place same_key (K j) vs) t.count 0 0
        (λ j b. rw zero-add (C.named j b ∙ ap (place same_key (K j)) vertices_are))
        ∙ sym (map_tab K (λ (k : Key). place same_key k vs) t.count 0)
        ∙ ap (map (λ (k : Key). place same_key k vs)) T.keys

    indices_are : run_pairs p (seg w' t.named t.count) 0 (runs (entries L.coord)) ≡ line_indices missing R L.coord vs
    unfolding number
    indices_are =
        (λ i. run_pairs (sym T.count i) (numbers_are i) 0 (runs (entries L.coord))) ∙ sym (indices_runs missing R L.coord vs)

    holds : Holds widths R.points z s vs
    unfolding vs
    holds = rw (T.points, vertices_are) at C.holds

    pub lined_all : widths.normal ≡ 0 → widths.texture ≡ 0 → (o is : List ℕ) (r : ℕ) → Put (run_pairs p (seg w' t.named t.count) 0 (runs (entries L.coord))) r o is
        → Lined (slices_of (lines_of missing R L.coord)) widths (with_indices z o) (with_indices s is) (record { vertices = n; indices = r })
    unfolding slices_of mesh_of lines_of line_frame vs
    lined_all e f o is r P =
        let F = line_frame R in
        let S = slices_of (lines_of missing R L.coord) in
        let P' : Put S.indices r o is = rw indices_are at P in
        record {
          sources = beyond S.sources z.sources (length vs) (length-map vs (λ (k : Key). k.point)) (sources_held holds F []);
          positions =
              beyond S.positions z.positions (3 * length vs)
              (length_words words3 3 (λ k. refl) (map (λ (k : Key). point_words R.points k.point) vs)
              ∙ ap (λ (k : ℕ). 3 * k) (length-map vs (λ (k : Key). point_words R.points k.point)))
              (positions_held holds F [] refl);
          normals = normals_left holds e;
          colours = λ q.
              beyond S.colours z.colours (4 * length vs)
              (length_words words4 4 (λ k. refl) (map (λ (k : Key). k.colour) vs) ∙ ap (λ (k : ℕ). 4 * k) (length-map vs (λ (k : Key). k.colour)))
              (colours_held holds F [] q);
          uncoloured = colours_left holds;
          textures = textures_left holds f;
          indices = P'.made;
          vertices = C.count ∙ ap length vertices_are ∙ sym (length-map vs (λ (k : Key). k.point));
          count = P'.count;
        }
