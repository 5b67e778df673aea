-- FORMAT 8.4: laws of the texture of a corner.
use mathlib.Core.Path.{◌≡◌, refl, sym, ap, ap₂, ◌∙◌}
use mathlib.Core.Bool.{true, false}
use mathlib.Core.List.{List, ◌++◌}
use Prim.Native.Nat.{ℕ, ◌+◌, ◌-◌, ◌*◌, ◌/◌, ◌%◌, ◌≤◌, ◌<◌}
use native.Mathlib.Nat.{mod-lt, div-lt_iff_lt-mul}
use native.Mathlib.Omega.{arith}
use borrow.Author.Tests.{lt-ltb, le-ltb}
use lib.Ieee.{Float, nan, binary32, to_bits}
use lib.ListN.{length, get_or, take, drop, length-append, length-take, length-drop, get_or-append}
use lib.Seq.{get_or-take, get_or-drop, get_or-append-add}
use Rattle.bits.specs.declared.Words2.{Words2}
use Rattle.math.specs.Vector.{zero_f}
use Rattle.block.specs.declared.header.Header.{Header}
use Rattle.block.specs.declared.settings.Settings.{Settings}
use Rattle.block.specs.declared.texture.Pair.{Pair}
use Rattle.block.specs.Settings.{settings_of}
use Rattle.block.specs.Texture.{uv_words}
use Rattle.mesh.specs.declared.texture.Fit.{Fit}
use Rattle.mesh.specs.Words.{no2}
use Rattle.mesh.specs.Arcs.{at2, step2, step3, arcs2, arcs3}
use Rattle.mesh.specs.Extrusion.{Extrusion, spine_count, section_count, extrusion_of, side_texture, cap_fit, cap_texture, corner_at}
use Rattle.tables.specs.declared.layout.Plan.{Plan}
use Rattle.tables.specs.Soups.{point_in, owner_in}
use Rattle.lists.specs.Parts.{spliced, Kept}
use Rattle.lists.proofs.Keep.{kept_at}
use Rattle.lists.proofs.Splices.{put_part}
use Rattle.lists.proofs.Lists.{get_or_any}
use Rattle.extrusion.specs.Given.{Given}
use Rattle.extrusion.specs.Listings.{use_of}
use Rattle.extrusion.specs.Corners.{texture_of, extrusion_corner, extrusion_texture, Measured, Cornered}
use Rattle.extrusion.proofs.Blocks.{section_long, spine_long, head_is, settings_are}
use Rattle.extrusion.proofs.Lengths.{length_arcs}

-- ---- the parameters, in floats

lengths : {bs : List ℕ} {h : Header} → Given bs h → length (arcs2 (extrusion_of bs).section ++ arcs3 (extrusion_of bs).spine) ≡ section_count h + spine_count h
lengths {bs} {h} G =
    length-append (arcs2 (extrusion_of bs).section) (arcs3 (extrusion_of bs).spine)
    ∙ ap₂ (λ (x y : ℕ). x + y)
    (length_arcs (step2 (extrusion_of bs).section) (length (extrusion_of bs).section) ∙ sym (section_long G))
    (length_arcs (step3 (extrusion_of bs).spine) (length (extrusion_of bs).spine) ∙ sym (spine_long G))

-- what `put_arcs` leaves is what is read
pub arcs_held : {bs : List ℕ} {h : Header} → Given bs h → (l made : List Float) (at : ℕ) → at + (section_count h + spine_count h) ≤ length l
    → made ≡ spliced l at (arcs2 (extrusion_of bs).section ++ arcs3 (extrusion_of bs).spine)
    → take (section_count h + spine_count h) (drop at made) ≡ arcs2 (extrusion_of bs).section ++ arcs3 (extrusion_of bs).spine
arcs_held {bs} {h} G l made at room e =
    let p : List Float = arcs2 (extrusion_of bs).section ++ arcs3 (extrusion_of bs).spine in
    put_part l at p e (lengths G) room

module _ {bs : List ℕ} {h : Header} {floats : List Float} {at : ℕ} {fit : Fit} (T : Measured bs h floats at fit) where
  pub arcs_room : at + (section_count h + spine_count h) ≤ length floats
  arcs_room =
      let e : length (take (section_count h + spine_count h) (drop at floats)) ≡ section_count h + spine_count h = ap length T.arcs ∙ lengths T.given in
      omega (arith, length-take (section_count h + spine_count h) (drop at floats), length-drop at floats, T.given.section)

  arc_at : (k : ℕ) → k < section_count h + spine_count h → get_or floats (at + k) zero_f ≡ get_or (arcs2 (extrusion_of bs).section ++ arcs3 (extrusion_of bs).spine) k zero_f
  arc_at k l = sym (get_or-drop at floats k zero_f) ∙ sym (get_or-take (section_count h + spine_count h) (drop at floats) k zero_f l) ∙ ap (λ (x : List Float). get_or x k zero_f) T.arcs

  section_arc : (j : ℕ) → j < section_count h → get_or floats (at + j) nan ≡ get_or (arcs2 (extrusion_of bs).section) j zero_f
  section_arc j l =
      let q : j < length (arcs2 (extrusion_of bs).section) = omega (arith, length_arcs (step2 (extrusion_of bs).section) (length (extrusion_of bs).section), section_long T.given) in
      get_or_any floats (at + j) nan zero_f (omega (arith, arcs_room)) ∙ arc_at j (omega arith) ∙ get_or-append (arcs2 (extrusion_of bs).section) (arcs3 (extrusion_of bs).spine) zero_f j q

  spine_arc : (i : ℕ) → i < spine_count h → get_or floats (at + (section_count h + i)) nan ≡ get_or (arcs3 (extrusion_of bs).spine) i zero_f
  spine_arc i l =
      let q : section_count h + i ≡ length (arcs2 (extrusion_of bs).section) + i = omega (arith, length_arcs (step2 (extrusion_of bs).section) (length (extrusion_of bs).section), section_long T.given) in
      get_or_any floats (at + (section_count h + i)) nan zero_f (omega (arith, arcs_room)) ∙ arc_at (section_count h + i) (omega arith)
      ∙ ap (λ (k : ℕ). get_or (arcs2 (extrusion_of bs).section ++ arcs3 (extrusion_of bs).spine) k zero_f) q
      ∙ get_or-append-add (arcs2 (extrusion_of bs).section) (arcs3 (extrusion_of bs).spine) i zero_f

  side_is : (i j : ℕ) (r : Words2) → i < spine_count h → j < section_count h → r.s ≡ to_bits binary32 (get_or floats (at + j) nan)
      → r.t ≡ to_bits binary32 (get_or floats (at + (section_count h + i)) nan) → r ≡ side_texture (extrusion_of bs) i j
  unfolding side_texture
  side_is i j r hi hj es et =
      let a = es ∙ ap (to_bits binary32) (section_arc j hj) in
      let b = et ∙ ap (to_bits binary32) (spine_arc i hi) in
      λ t. record { s = a t; t = b t }

-- ---- a corner's texture

module _ (E : Extrusion) (number p n m : ℕ) (en : n ≡ length E.spine) (em : m ≡ length E.section) (r : Words2) where
  texture_side : number < (n - 1) * (m - 1) → r ≡ side_texture E (p / m) (p % m) → r ≡ texture_of E number p
  unfolding texture_of
  texture_side l e = rw (← en, ← em, lt-ltb number ((n - 1) * (m - 1)) l) e

  texture_cap : (n - 1) * (m - 1) ≤ number → r ≡ cap_texture (cap_fit E.section) (at2 E.section (p % m)) → r ≡ texture_of E number p
  unfolding texture_of
  texture_cap l e = rw (← en, ← em, le-ltb number ((n - 1) * (m - 1)) l) e

module _ {bs : List ℕ} {h : Header} {floats : List Float} {at : ℕ} {fit : Fit} (T : Measured bs h floats at fit)
    (number p n m : ℕ) (en : n ≡ spine_count h) (em : m ≡ section_count h) (l : p < spine_count h * section_count h) where
  pub column_lt : p % m < m
  column_lt = mod-lt p (let q = T.given.section in omega arith)

  row_under : p / m < n
  row_under = (div-lt_iff_lt-mul {k = m} {x = p} {y = n} (let q = T.given.section in omega arith)).1 (rw (en, em) l)

  pub column_reach : at + p % m < length floats
  column_reach = omega (arith, arcs_room T, column_lt)

  pub row_reach : at + (m + p / m) < length floats
  row_reach = omega (arith, arcs_room T, row_under)

  pub on_side : (r : Words2) → number < (n - 1) * (m - 1) → r.s ≡ to_bits binary32 (get_or floats (at + p % m) nan) → r.t ≡ to_bits binary32 (get_or floats (at + (m + p / m)) nan)
      → r ≡ texture_of (extrusion_of bs) number p
  on_side r k es et =
      texture_side (extrusion_of bs) number p n m (en ∙ spine_long T.given) (em ∙ section_long T.given) r k
      (side_is T (p / m) (p % m) r (omega (arith, row_under)) (omega (arith, column_lt)) es (et ∙ ap (λ (x : ℕ). to_bits binary32 (get_or floats (at + (x + p / m)) nan)) em))

  pub on_cap : (cs : List Pair) (q : Pair) (r : Words2) → (n - 1) * (m - 1) ≤ number → cs ≡ (extrusion_of bs).section → q ≡ at2 cs (p % m) → r ≡ cap_texture fit q
      → r ≡ texture_of (extrusion_of bs) number p
  on_cap cs q r k c eq er =
      texture_cap (extrusion_of bs) number p n m (en ∙ spine_long T.given) (em ∙ section_long T.given) r k
      (er ∙ ap₂ cap_texture T.fitted (eq ∙ ap (λ (x : List Pair). at2 x (p % m)) c))

corner_wanted : (E : Extrusion) (number p : ℕ) → E.head.need_uvs ≡ true
    → (extrusion_corner E number (use_of p)).texture ≡ uv_words E.head.transformed E.settings.transform (texture_of E number p)
unfolding extrusion_corner corner_at
corner_wanted E number p e = rw e refl

corner_bare : (E : Extrusion) (number p : ℕ) → E.head.need_uvs ≡ false → (extrusion_corner E number (use_of p)).texture ≡ no2
unfolding extrusion_corner corner_at
corner_bare E number p e = rw e refl

module _ {bs : List ℕ} {h : Header} {floats : List Float} {at : ℕ} {fit : Fit} (T : Measured bs h floats at fit) (number p : ℕ) where
  pub corner_made : (s : Settings) (w r : Words2) → s ≡ settings_of bs → h.need_uvs ≡ true → w ≡ texture_of (extrusion_of bs) number p → r ≡ uv_words h.transformed s.transform w
      → r ≡ (extrusion_corner (extrusion_of bs) number (use_of p)).texture
  corner_made s w r es e ew er =
      let hd = head_is T.given in
      let st : s ≡ (extrusion_of bs).settings = es ∙ sym (settings_are bs) in
      er ∙ (λ t. uv_words (sym hd t).transformed (st t).transform (ew t)) ∙ sym (corner_wanted (extrusion_of bs) number p (ap (λ (x : Header). x.need_uvs) hd ∙ e))

  pub corner_none : h.need_uvs ≡ false → no2 ≡ (extrusion_corner (extrusion_of bs) number (use_of p)).texture
  corner_none e = sym (corner_bare (extrusion_of bs) number p (ap (λ (x : Header). x.need_uvs) (head_is T.given) ∙ e))

-- ---- one corner more: the tables that are read stand below what is written

module _ {h : Header} {t : Plan} {textures : ℕ} {w v : List ℕ} (C : Cornered h t textures w) (K : Kept textures w v) {c : ℕ} (l : c < t.count) where
  point_read : get_or v (t.corners + c) 0 ≡ point_in w t c
  unfolding point_in
  point_read = let q = C.points in kept_at K (t.corners + c) (omega arith)

  pub corner_within : {p : ℕ} → p ≡ get_or v (t.corners + c) 0 → p < spine_count h * section_count h
  corner_within e = rw (e ∙ point_read) (C.within c l)

  pub texture_read : (E : Extrusion) {f p : ℕ} {r : Words2} → p ≡ get_or v (t.corners + c) 0 → f ≡ get_or v (t.owners + c) 0 → r ≡ (extrusion_corner E f (use_of p)).texture
      → r ≡ extrusion_texture E w t c
  unfolding extrusion_texture owner_in
  texture_read E ep ef er =
      let q = C.faces in
      let x = ep ∙ point_read in
      let y = ef ∙ kept_at K (t.owners + c) (omega arith) in
      er ∙ (λ i. (extrusion_corner E (y i) (use_of (x i))).texture)
