-- FORMAT 4, 7, 8.2, 11: the tables and slices of an accepted line set are as `make_lines` asks, and what it leaves is the line set's mesh.
use mathlib.Core.Path.{◌≡◌, refl, sym, ap, ◌∙◌, subst}
use mathlib.Core.Bool.{Bool, true, false, cond}
use mathlib.Core.Logic.{◌⊎◌}
use mathlib.Core.List.{List, []}
use Prim.Native.Nat.{ℕ, ◌*◌}
use native.Mathlib.Omega.{arith}
use lib.ListN.{length, get_or, take, replicate}
use lib.Ieee.{Float}
use Rattle.bits.specs.Bits.{entries}
use Rattle.bits.specs.declared.Words4.{Words4}
use Rattle.block.specs.declared.kind.Kind.TheVariants.{LineSet}
use Rattle.block.specs.declared.header.Header.{Header}
use Rattle.block.specs.Header.{header_of}
use Rattle.block.specs.declared.settings.Settings.{Settings}
use Rattle.block.specs.Extents.{list_bytes}
use Rattle.mesh.specs.Mesh.{Slices, slices_of, over}
use Rattle.mesh.specs.FaceSet.{rest_of, coord_in, point_count}
use Rattle.mesh.specs.Lines.{lines_of, line_set_mesh}
use Rattle.mesh.specs.Result.{makes_normals, makes_colours, makes_textures, made_of}
use Rattle.vertices.specs.declared.places.Widths.{Widths}
use Rattle.vertices.specs.Places.{colour_words, store_of, Roomy}
use Rattle.corners.specs.declared.attributes.Attributes.{Attributes}
use Rattle.corners.specs.declared.laid.CornerTables.{CornerTables}
use Rattle.corners.specs.Laid.{Laid}
use Rattle.corners.specs.Corner.{Lent}
use Rattle.soups.specs.Attributes.{attributes_of}
use Rattle.lent.specs.declared.Counts.{Counts}
use Rattle.lent.specs.Lent.{Asked, Shaped, Cleared}
use Rattle.lines.specs.Made.{Told, Ready, Lined, Done}
use Rattle.lines.proofs.Keyed.{Coloured, told_listed}
use Rattle.lists.proofs.Numbers.{wide_by, wide_most, wide_few}
use Rattle.lineshape.specs.Shape.{line_tables, line_widths, Tabled}
use Rattle.lineshape.proofs.Tabling.{stand, points_before}
use Rattle.lineshape.proofs.Bounds.{points_whole, enough, corners_low, laid_at}

-- FORMAT 5: a slice of an attribute that is not made, and of one that is made where b holds, by the width u
unmade : (b : Bool) (made held : List ℕ) {l : List ℕ} → b ≡ false → l ≡ held → l ≡ over (cond b made []) held
unmade b made held e h = h ∙ ap (λ (b : Bool). over (cond b made []) held) (sym e)

made_where : (b : Bool) (u : ℕ) (made held : List ℕ) {l : List ℕ} → u ≡ cond b colour_words 0 → (u ≡ colour_words → l ≡ over made held) → (u ≡ 0 → l ≡ held) → l ≡ over (cond b made []) held
made_where true u made held e f g = f e
made_where false u made held e f g = g e

-- the words w lent, then w₁ with the tables; the floats d; the lists, tables, attributes and widths as the code has them
module _ (missing : Words4) (d : List Float) {bs : List ℕ} {h : Header} {s : Settings} {o : Slices} {w w₁ : List ℕ} (A : Asked LineSet bs h s o (length w) (length d))
    {list coord : List ℕ} (l : list ≡ list_bytes bs h 0) (c : coord ≡ list_bytes bs h 1) {t : CornerTables} (e : t ≡ line_tables (point_count h) (entries coord))
    (T : Tabled (point_count h) (entries list) (entries coord) t w w₁) {a : Attributes} (q : a ≡ attributes_of missing h) {widths : Widths} (v : widths ≡ line_widths h) where
  read : Lent
  read = record { block = bs; coord = coord; floats = d }

  head : h ≡ header_of bs
  head = A.accepted.header

  coord_is : coord ≡ coord_in bs
  unfolding coord_in
  coord_is = c ∙ ap (λ (g : Header). list_bytes bs g 1) head

  coloured : Coloured missing bs read a widths
  unfolding read attributes_of line_widths
  coloured =
      let b = q ∙ ap (attributes_of missing) head in
      record {
        kind = ap (λ (g : Header). g.kind) (sym head) ∙ A.kind;
        block = refl;
        coord = coord_is;
        colours = ap (λ (x : Attributes). x.colours) b;
        alpha = ap (λ (x : Attributes). x.alpha) b;
        absent = ap (λ (x : Attributes). x.missing) b;
        normal = ap (λ (x : Widths). x.normal) v;
        texture = ap (λ (x : Widths). x.texture) v;
        colour = ap (λ (x : Widths). x.colour) (v ∙ ap line_widths head);
      }

  count_is : point_count (rest_of bs).head ≡ point_count h
  unfolding rest_of
  count_is = ap (λ (g : Header). get_or g.counts 0 0) (sym head)

  points_are : take (3 * point_count h) (entries list) ≡ (rest_of bs).points
  unfolding rest_of
  points_are = points_whole A l ∙ ap entries l ∙ ap (λ (g : Header). entries (list_bytes bs g 0)) head

  told : Told missing (rest_of bs) read a widths w₁ t (point_count h)
  unfolding read
  told =
      let S = stand (point_count h) (entries coord) e in
      told_listed coloured (point_count h) T.listed count_is S.3 (subst (Laid t) (sym T.len) (laid_at A c e))
      (points_before (point_count h) (entries coord) e) (T.points ∙ points_are)

  len : length w₁ ≡ length w
  len = T.listed.kept.len ∙ T.len

  roomy : Roomy widths (store_of o) t.count
  unfolding line_widths
  roomy =
      let N = enough A c in
      let n = (stand (point_count h) (entries coord) e).3 in
      subst (λ (x : Widths). Roomy x (store_of o) t.count) (sym v)
      (record {
        widths = (omega arith, wide_most h.colors colour_words, omega arith);
        few = omega (arith, n, corners_low A c);
        sources = omega (arith, n, N.sources);
        positions = omega (arith, n, N.positions);
        normals = omega arith;
        colours = wide_few h.colors colour_words t.count (length o.colours) (omega (arith, n, N.colours));
        textures = omega arith;
      })

  pub ready : Ready (record { block = bs; coord = coord; floats = d }) a widths w₁ t (point_count h) o
  unfolding read line_widths
  ready =
      let N = enough A c in
      let n = (stand (point_count h) (entries coord) e).3 in
      record {
        corners = record {
          laid = subst (Laid t) (sym len) (laid_at A c e);
          points = T.listed.within;
          floats = omega (arith, n, N.floats);
          roomy = roomy;
        };
        normal = coloured.normal;
        texture = coloured.texture;
        colour = subst (λ (x : Widths). (x.colour ≡ 0) ⊎ (x.colour ≡ colour_words)) (sym v) (wide_by h.colors colour_words);
        room = N.indices;
        missing = missing;
        rest = rest_of bs;
        told = told;
      }

  -- FORMAT 5, 8.2: the slices then hold the line set's mesh
  pub shaped : {m : Slices} {w₂ : List ℕ} {d₂ : List Float} {r : Counts}
      → Done (record { block = bs; coord = coord; floats = d }) a widths w₁ t (point_count h) o m w₂ d₂ r
      → Shaped h (line_set_mesh missing bs) o m r × Cleared w w₂ d d₂
  unfolding read line_set_mesh made_of slices_of line_widths
  shaped {m} {w₂} {d₂} {r} D =
      let M = line_set_mesh missing bs in
      let B : Lined (slices_of M) widths o m r
      = subst (λ (x : List ℕ). Lined (slices_of (lines_of missing (rest_of bs) x)) widths o m r)
      coord_is (D.lined missing (rest_of bs) told) in (
        record {
          vertices = B.vertices;
          count = B.count;
          slices = λ i. record {
            sources = B.sources i;
            positions = B.positions i;
            normals = (unmade (makes_normals h) (slices_of M).normals o.normals (rw A.kind refl) B.normals) i;
            colours = (made_where (makes_colours h) widths.colour (slices_of M).colours o.colours (ap (λ (x : Widths). x.colour) v ∙ rw A.kind refl) B.colours B.uncoloured) i;
            textures = (unmade (makes_textures h) (slices_of M).textures o.textures (rw A.kind refl) B.textures) i;
            indices = B.indices i;
          };
        },
        record { words = D.words ∙ ap (λ (n : ℕ). replicate n 0) len; floats = D.floats },
      )
