-- FORMAT 7.2, 8.2, 11: where the tables hold the entries of a line set's block and colours are read by the block's stream, the keys are those of its lines.
use mathlib.Core.Path.{◌≡◌, refl, sym, ap, ◌∙◌, subst}
use mathlib.Core.Bool.{Bool, true, false, cond}
use mathlib.Core.List.{List, ◌++◌, map}
use Prim.Native.Nat.{ℕ, ◌+◌, ◌*◌, ◌≤◌, ◌<◌}
use native.Mathlib.Nat.{zero-add}
use native.Mathlib.Omega.{arith}
use lib.ListN.{length, get_or, take, drop, length-map}
use lib.Seq.{ext_get_or}
use Rattle.bits.specs.Bits.{entries}
use Rattle.bits.specs.declared.Words2.{Words2}
use Rattle.bits.specs.declared.Words3.{Words3}
use Rattle.bits.specs.declared.Words4.{Words4}
use Rattle.block.specs.declared.kind.Kind.{Kind}
use Rattle.block.specs.declared.kind.Kind.TheVariants.{LineSet}
use Rattle.block.specs.Header.{header_of}
use Rattle.block.specs.Extents.{place_of, list_bytes}
use Rattle.block.specs.Runs.{runs, sum_over}
use Rattle.block.specs.Value.{value4_at}
use Rattle.block.specs.Stream as stream
use Rattle.block.specs.Stream.{stream_of, get4_at}
use Rattle.lists.specs.Loops.{tab}
use Rattle.lists.proofs.Tabs.{length_tab, get_or_tab}
use Rattle.mesh.specs.Words.{words2, words3, words4, no2, no3, no4}
use Rattle.mesh.specs.Vertices.{no_key}
use Rattle.mesh.specs.FaceSet.{rest_of, coord_in, point_count, colour_of}
use Rattle.mesh.specs.Sizes.{named}
use Rattle.lists.proofs.Lists.{get_or_map_lt}
use Rattle.lists.specs.Parts.{seg}
use Rattle.lists.proofs.Keep.{kept_seg}
use Rattle.vertices.specs.declared.places.Widths.{Widths}
use Rattle.vertices.specs.Places.{colour_words, colour_start, texture_start}
use Rattle.vertices.specs.Search.{two, three, four, corner_key}
use Rattle.vertices.specs.Adding.{points_in}
use Rattle.corners.specs.declared.attributes.Attributes.{Attributes}
use Rattle.corners.specs.declared.laid.CornerTables.{CornerTables}
use Rattle.corners.specs.Laid.{Laid, chains_of}
use Rattle.corners.specs.Corner.{Lent, place_at, number_at, texture_at, normal_at, colour_at, words_at, key_in}
use Rattle.lines.specs.Uses.{LineUse, no_use, line_uses, Listed}
use Rattle.lines.specs.Made.{Told}
use Rattle.lines.proofs.Usage.{length_uses}
use Rattle.lines.proofs.UseKeys.{key_for, keys_uses}

-- the block bs of a line set is lent, its colours are read by its stream, and they are all that is made
pub record Coloured (missing : Words4) (bs : List ℕ) (L : Lent) (a : Attributes) (widths : Widths) : Type 0 where
  pub kind : (header_of bs).kind ≡ LineSet
  pub block : L.block ≡ bs
  pub coord : L.coord ≡ coord_in bs
  pub colours : a.colours ≡ stream_of (header_of bs) (header_of bs).color_per_vertex 2
  pub alpha : a.alpha ≡ (header_of bs).alpha
  pub absent : a.missing ≡ missing
  pub normal : widths.normal ≡ 0
  pub texture : widths.texture ≡ 0
  pub colour : widths.colour ≡ cond (header_of bs).colors colour_words 0

-- ---- the parts of a key

normal_none : (l : List ℕ) (u : ℕ) → u ≡ 0 → three (seg l 0 u) ≡ no3
unfolding seg
normal_none l u e = rw e refl

texture_none : (l : List ℕ) (u : ℕ) → u ≡ 0 → two (seg l texture_start u) ≡ no2
unfolding seg
texture_none l u e = rw e refl

colour_made : (n : Words3) (k : Words4) (x : Words2) (u : ℕ) (b : Bool) → u ≡ cond b colour_words 0 → four (seg (words3 n ++ words4 k ++ words2 x) colour_start u) ≡ cond b k no4
unfolding seg
colour_made n k x u true e = rw e refl
colour_made n k x u false e = rw e refl

module _ {missing : Words4} {bs : List ℕ} {L : Lent} {a : Attributes} {widths : Widths} (A : Coloured missing bs L a widths) where
  -- FORMAT 7.2: what a corner reads
  colour_read : (place num : ℕ)
      → cond (header_of bs).colors (get4_at L.block L.coord a.colours a.alpha place num a.missing) no4 ≡ colour_of missing (rest_of bs) L.coord num place
  unfolding colour_of rest_of stream_of
  colour_read place num =
      let H = header_of bs in
      (λ i. cond H.colors (get4_at (A.block i) L.coord (A.colours i) (A.alpha i) place num (A.absent i)) no4)
      ∙ ap (λ (k : Kind). cond H.colors
      (value4_at (list_bytes bs H 2) H.alpha (stream.number_at (take (stream.index_bytes k (place_of H 3).len) (drop (place_of H 3).at bs)) L.coord H.color_per_vertex place num) missing) no4)
      A.kind

  module _ {t : CornerTables} {w₀ w : List ℕ} (E : Listed (point_count (rest_of bs).head) (entries L.coord) t w₀ w) (c : ℕ) (h : c < t.count) where
    u : LineUse
    u = get_or (line_uses (point_count (rest_of bs).head) (entries L.coord)) c no_use

    colour_is : four (seg (words_at L a w t c) colour_start widths.colour) ≡ colour_of missing (rest_of bs) L.coord u.number u.place
    unfolding u words_at colour_at
    colour_is =
        colour_made (normal_at L a w t c) (colour_at L a w t c) (texture_at w t c) widths.colour (header_of bs).colors A.colour
        ∙ colour_read (place_at w t c) (number_at w t c)
        ∙ (λ i. colour_of missing (rest_of bs) L.coord (E.numbers c h i) (E.places c h i))

    key_is : key_in L a widths w t c ≡ key_for missing (rest_of bs) L.coord (get_or (line_uses (point_count (rest_of bs).head) (entries L.coord)) c no_use)
    unfolding u key_in corner_key
    key_is = λ i.
        record {
          point = E.points c h i;
          normal = normal_none (words_at L a w t c) widths.normal A.normal i;
          colour = colour_is i;
          texture = texture_none (words_at L a w t c) widths.texture A.texture i;
        }

  -- what `list_entries` leaves, from words that hold the points of the block
  pub told_listed : {t : CornerTables} {w₀ w : List ℕ} (p : ℕ) → Listed p (entries L.coord) t w₀ w → point_count (rest_of bs).head ≡ p
      → t.count ≡ sum_over (named p) (runs (entries L.coord)) → Laid t (length w₀) → t.points + 3 * t.spots ≤ t.corners → points_in (chains_of t) w₀ ≡ (rest_of bs).points
      → Told missing (rest_of bs) L a widths w t p
  unfolding points_in
  told_listed {t} {w₀} {w} p E q n Q order held =
      let P = point_count (rest_of bs).head in
      let es = entries L.coord in
      let U = line_uses P es in
      let F = key_for missing (rest_of bs) L.coord in
      let K = key_in L a widths w t in
      let G : Listed P es t w₀ w = subst (λ (k : ℕ). Listed k es t w₀ w) (sym q) E in
      let l : length U ≡ t.count = length_uses P es ∙ ap (λ (k : ℕ). sum_over (named k) (runs es)) q ∙ sym n in
      let m : length (tab K t.count 0) ≡ t.count = length_tab K t.count 0 in
      record {
        keys =
            ext_get_or no_key (tab K t.count 0) (map F U) (m ∙ sym l ∙ sym (length-map U F))
            (λ i b.
            let b' : i < t.count = omega (arith, m) in
            get_or_tab K t.count 0 i no_key b' ∙ ap K (zero-add i) ∙ key_is G i b' ∙ sym (get_or_map_lt F U i no_key no_use (omega (arith, l))))
            ∙ sym (keys_uses missing (rest_of bs) L.coord);
        points = kept_seg E.kept t.points (3 * t.spots) order (omega arith) ∙ held;
        count = q;
      }
