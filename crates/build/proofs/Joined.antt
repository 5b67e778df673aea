-- What the calls leave is the mesh of the soup that the tables hold.
use mathlib.Core.Path.{◌≡◌, refl, sym, ap, ◌∙◌, subst}
use mathlib.Core.Bool.{Bool}
use mathlib.Core.Logic.{⊎_elim}
use mathlib.Core.List.{List, [], ◌++◌}
use Prim.Native.Nat.{ℕ, suc, ◌+◌, ◌*◌, ◌-◌, ◌<◌}
use native.Mathlib.Nat.{zero-add, le_refl}
use native.Mathlib.Omega.{arith}
use lib.ListN.{length, get_or, take, drop, replicate}
use lib.Ieee.{Float, binary32, of_bits}
use lib.Seq.{get_or-take, get_or-drop, take_at}
use Rattle.lists.proofs.Tabs.{tab_at}
use Rattle.lists.specs.Lists.{join_n, total, place, firsts}
use Rattle.mesh.specs.Soup.{no_corner, Face, Frame}
use Rattle.mesh.specs.Vertices.{Key, no_key, same_key, key_of, keys_of, vertices, indices_of}
use Rattle.mesh.specs.Mesh.{mesh_of, mesh, Slices, slices_of, over}
use Rattle.lists.proofs.Lists.{piece}
use Rattle.mesh.proofs.Corners.{length_keys, get_or_keys}
use Rattle.mesh.proofs.Facts.{indices_within, slices_sized}
use Rattle.tables.specs.declared.layout.Plan.{Plan}
use Rattle.tables.specs.Soups.{start_in, named_in, points_in, Holds}
use Rattle.tables.proofs.Stays.{start_le, start_kept}
use Rattle.tables.proofs.Held.{faces_held, start_held, starts_held, holds_kept}
use Rattle.vertices.specs.Places.{Store, store_of}
use Rattle.vertices.specs.Adding as adding
use Rattle.vertices.specs.Adding.{made_of}
use Rattle.vertices.proofs.Sliced.{sources_held, positions_held, normals_held, colours_held, textures_held, colours_left, textures_left}
use Rattle.corners.specs.Laid.{tables_of}
use Rattle.corners.specs.Corner.{Lent, key_in}
use Rattle.corners.specs.Cornered.{vertices_in, Cornered}
use Rattle.faces.specs.Indices.{all_faces, Named, Made}
use Rattle.faces.proofs.Joined.{made_joined}
use Rattle.mending.specs.Mend.{mended_words}
use Rattle.mending.proofs.MendedWords.{mended_slice}
use Rattle.lent.specs.declared.Counts.{Counts}
use Rattle.build.specs.declared.shared.Shared.{Shared}
use Rattle.build.specs.Built.{Told, Wide, part, made_by, Ready, Meshed, Built}
use Rattle.build.proofs.Asked.{tables_kept}

-- an attribute that is made, or not
part_over : (n v m : ℕ) (made l z : List ℕ) → Wide (suc n) v → length made ≡ m → (v ≡ 0 → l ≡ z) → (v ≡ suc n → l ≡ made ++ drop m z)
    → l ≡ over (part v made) z
unfolding part
part_over n v m made l z W long left held =
    ⊎_elim
    (λ (e : v ≡ 0). left e ∙ ap (λ (u : ℕ). over (part u made) z) (sym e))
    (λ (e : v ≡ suc n). held e ∙ ap (λ (k : ℕ). made ++ drop k z) (sym long) ∙ ap (λ (u : ℕ). over (part u made) z) (sym e))
    W

module _ {L : Lent} {s : Shared} {t : Plan} {w : List ℕ} {F : Frame} {fs : List Face} (T : Told L s t w F fs) where
  abbrev key_at : ℕ → Key
  key_at = key_in L s.attributes s.widths w (tables_of t)

  -- FORMAT 11: the vertices of all corners are the soup's
  vertices_told : vertices_in L s.attributes s.widths w (tables_of t) ≡ vertices F fs
  unfolding vertices_in made_of vertices tables_of
  vertices_told = ap (firsts same_key []) T.keys

  -- corner i of kept face j, among all corners; its key
  corner_below : (j i : ℕ) → j < t.faces → i < length (get_or fs j []) → start_in w t j + i < t.count
  corner_below j i h b = let H = T.holds in omega (arith, start_held H j h, start_le H.sound (suc j) h, b)

  key_told : (j i : ℕ) → j < t.faces → i < length (get_or fs j []) → key_at (start_in w t j + i) ≡ key_of F fs j (get_or fs j []) (get_or (get_or fs j []) i no_corner)
  key_told j i h b =
      let H = T.holds in
      let f : Face = get_or fs j [] in
      let a : ℕ = start_in w t j in
      let all : List Key = join_n (keys_of F fs) 0 fs in
      let l = faces_held H in
      sym (tab_at key_at t.count (a + i) no_key (corner_below j i h b))
      ∙ ap (λ (ks : List Key). get_or ks (a + i) no_key) T.keys
      ∙ ap (λ (m : ℕ). get_or all (m + i) no_key) (sym (starts_held H j (omega arith)))
      ∙ sym (get_or-drop (total length (take j fs)) all i no_key)
      ∙ sym (get_or-take (length f) (drop (total length (take j fs)) all) i no_key b)
      ∙ ap (λ (ks : List Key). get_or ks i no_key) (piece (keys_of F fs) length (length_keys F fs) fs 0 j [] (omega arith))
      ∙ ap (λ (m : ℕ). get_or (keys_of F fs m f) i no_key) (zero-add j)
      ∙ get_or_keys F fs j f i b

  module _ {o : Slices} (R : Ready L s t w o) {st : Store} {w₁ : List ℕ} {n : ℕ}
      (C : Cornered L s.attributes s.widths (tables_of t) (store_of o) w st w₁ n) where
    holds_after : Holds w₁ t F fs
    holds_after = holds_kept (tables_kept R C) (le_refl t.named) T.holds

    named_told : (c : ℕ) → c < t.count → named_in w₁ t c ≡ place same_key (key_at c) (vertices F fs)
    unfolding named_in tables_of
    named_told c h = C.named c h ∙ ap (place same_key (key_at c)) vertices_told

    named_after : Named w₁ t F fs (vertices F fs)
    named_after = record {
      at = λ j i h b.
          let q = T.holds.sound.room in
          let e : start_in w₁ t j ≡ start_in w t j = start_kept (tables_kept R C) t j (omega (arith, h)) in
          ap (λ (a : ℕ). named_in w₁ t (a + i)) e
          ∙ named_told (start_in w t j + i) (corner_below j i h b) ∙ ap (λ (k : Key). place same_key k (vertices F fs)) (key_told j i h b);
    }

    -- FORMAT 5: the slices hold the soup's vertices, with normals still to be mended
    vertices_held : adding.Holds s.widths F.points (store_of o) st (vertices F fs)
    unfolding tables_of adding.points_in points_in
    vertices_held =
        subst (adding.Holds s.widths F.points (store_of o) st) vertices_told
        (subst (λ (p : List ℕ). adding.Holds s.widths p (store_of o) st (vertices_in L s.attributes s.widths w (tables_of t))) T.holds.points C.holds)

    module _ {f₁ f₂ : List Float} {o₁ w₂ : List ℕ} {k : ℕ} (M : Made t (all_faces w₁ t s.ccw s.convex) f₁ k o.indices o₁ w₁ w₂ f₂) where
      -- FORMAT 12.1
      indices_made : Made t (indices_of F fs (vertices F fs)) f₁ k o.indices o₁ w₁ w₂ f₂
      indices_made =
          made_joined holds_after named_after
          (subst (λ (p : Bool). Made t (all_faces w₁ t F.ccw p) f₁ k o.indices o₁ w₁ w₂ f₂) (sym T.convex)
          (subst (λ (p : Bool). Made t (all_faces w₁ t p s.convex) f₁ k o.indices o₁ w₁ w₂ f₂) (sym T.ccw) M))

      -- as they are lent
      indices_lent : take (k - 0) (drop 0 o₁) ≡ indices_of F fs (vertices F fs)
      indices_lent =
          let is : List ℕ = indices_of F fs (vertices F fs) in
          let e : k - 0 ≡ length is = omega (arith, indices_made.count) in
          ap (take (k - 0)) indices_made.made ∙ take_at is (drop (length is) o.indices) (k - 0) (sym e)

      -- FORMAT 10.3
      normals_made : (out : List ℕ) → out ≡ mended_words st.positions (take (k - 0) (drop 0 o₁)) st.normals n ++ drop (3 * n) st.normals
          → out ≡ (slices_of (mesh F fs)).normals ++ drop (3 * length (vertices F fs)) o.normals
      unfolding mesh slices_of mesh_of
      normals_made out e =
          let vs : List Key = vertices F fs in
          let is : List ℕ = indices_of F fs vs in
          mended_slice F vs is st.positions st.normals (drop (3 * length vs) o.positions) (drop (3 * length vs) o.normals) (positions_held vertices_held F is refl)
          (normals_held vertices_held R.normal) (indices_within F fs) n out (C.count ∙ ap length vertices_told)
          (e ∙ ap (λ (l : List ℕ). mended_words st.positions l st.normals n ++ drop (3 * n) st.normals) indices_lent)

      meshed : (out : List ℕ) → out ≡ mended_words st.positions (take (k - 0) (drop 0 o₁)) st.normals n ++ drop (3 * n) st.normals
          → Meshed s.widths (mesh F fs) o
          (record { sources = st.sources; positions = st.positions; normals = out; colours = st.colours; textures = st.textures; indices = o₁ })
          (record { vertices = n; indices = k })
      unfolding mesh slices_of mesh_of made_by
      meshed out e =
          let vs : List Key = vertices F fs in
          let is : List ℕ = indices_of F fs vs in
          let S : Slices = slices_of (mesh_of F vs is) in
          let H = vertices_held in
          let Z = slices_sized F vs is in
          record {
            vertices = C.count ∙ ap length vertices_told ∙ sym Z.sources;
            count = indices_made.count;
            slices = λ i. record {
              sources = (sources_held H F is ∙ ap (λ (m : ℕ). S.sources ++ drop m o.sources) (sym Z.sources)) i;
              positions = (positions_held H F is refl ∙ ap (λ (m : ℕ). S.positions ++ drop m o.positions) (sym Z.positions)) i;
              normals = (normals_made out e ∙ ap (λ (m : ℕ). S.normals ++ drop m o.normals) (sym Z.normals)) i;
              colours = part_over 3 s.widths.colour (4 * length vs) S.colours st.colours o.colours R.colour Z.colours (colours_left H) (colours_held H F is) i;
              textures = part_over 1 s.widths.texture (2 * length vs) S.textures st.textures o.textures R.texture Z.textures (textures_left H) (textures_held H F is) i;
              indices = indices_made.made i;
            };
          }

-- FORMAT 5, 10.3, 11, 12: what the five calls leave, one after another
module _ {L : Lent} {s : Shared} {t : Plan} {w : List ℕ} {o : Slices} (R : Ready L s t w o) {st : Store} {w₁ : List ℕ} {n : ℕ}
    (C : Cornered L s.attributes s.widths (tables_of t) (store_of o) w st w₁ n) {f₁ f₂ : List Float} {o₁ w₂ : List ℕ} {k : ℕ}
    (M : Made t (all_faces w₁ t s.ccw s.convex) f₁ k o.indices o₁ w₁ w₂ f₂) where
  pub built : (out : List ℕ) → out ≡ mended_words st.positions (take (k - 0) (drop 0 o₁)) st.normals n ++ drop (3 * n) st.normals
      → {m : ℕ} → m ≡ length w → (w₃ : List ℕ) → w₃ ≡ replicate m 0 → {l : ℕ} → l ≡ length L.floats → (f : List Float) → f ≡ replicate l (of_bits binary32 0)
      → Built L s t w o (record { sources = st.sources; positions = st.positions; normals = out; colours = st.colours; textures = st.textures; indices = o₁ })
      w₃ f (record { vertices = n; indices = k })
  built out e lw w₃ ew lf f ef =
      record {
        made = λ F fs T. meshed T R C M out e;
        work = ew ∙ ap (λ (i : ℕ). replicate i 0) lw;
        floats = ef ∙ ap (λ (i : ℕ). replicate i (of_bits binary32 0)) lf;
      }

-- what is lent on is the caller's
pub mended_as : (st : Store) (is : List ℕ) (n : ℕ) {x y out : List ℕ} → out ≡ mended_words x is y n ++ drop (3 * n) y → x ≡ st.positions → y ≡ st.normals
    → out ≡ mended_words st.positions is st.normals n ++ drop (3 * n) st.normals
mended_as st is n e p q = e ∙ (λ i. mended_words (p i) is (q i) n ++ drop (3 * n) (q i))

pub built_as : {L : Lent} {s : Shared} {t : Plan} {w : List ℕ} {o : Slices} (st : Store) {out is w' : List ℕ} {f : List Float} {r : Counts} {k l n p q : List ℕ}
    → Built L s t w o (record { sources = st.sources; positions = st.positions; normals = out; colours = st.colours; textures = st.textures; indices = is }) w' f r
    → k ≡ st.sources → l ≡ st.positions → n ≡ out → p ≡ st.colours → q ≡ st.textures
    → Built L s t w o (record { sources = k; positions = l; normals = n; colours = p; textures = q; indices = is }) w' f r
built_as {L} {s} {t} {w} {o} st {out} {is} {w'} {f} {r} B ek el en ep eq =
    subst (λ (x : Slices). Built L s t w o x w' f r)
    (λ i. record { sources = sym ek i; positions = sym el i; normals = sym en i; colours = sym ep i; textures = sym eq i; indices = is })
    B
