-- FORMAT 5: what the slices hold of a mesh's vertices is what the mesh says; an attribute that is not made leaves its slice as it was.
use mathlib.Core.Path.{◌≡◌, refl, sym, ap, ◌∙◌, subst}
use mathlib.Core.List.{List, [], ◌∷◌, ◌++◌, map, map-map}
use Prim.Native.Nat.{ℕ, ◌*◌, ◌≤◌}
use native.Mathlib.Nat.{le_refl, zero-mul}
use lib.ListN.{length, take, drop}
use lib.Seq.{take_all}
use Rattle.lists.specs.Lists.{flat}
use Rattle.mesh.specs.Words.{words2, words3, words4, point_words}
use Rattle.mesh.specs.Soup.{Frame}
use Rattle.mesh.specs.Vertices.{Key}
use Rattle.mesh.specs.Mesh.{mesh_of, slices_of}
use Rattle.lists.proofs.Lists.{All_of, map_All}
use Rattle.vertices.specs.declared.places.Widths.{Widths}
use Rattle.vertices.specs.Places.{normal_words, colour_words, texture_words, Store}
use Rattle.vertices.specs.Hash.{normal_of, colour_of, texture_of}
use Rattle.vertices.specs.Adding.{position_of, Holds}

-- rows of nothing
flat_none : (ks : List Key) (g : Key → List ℕ) → ((k : Key) → g k ≡ []) → flat (map g ks) ≡ []
unfolding flat
flat_none [] g h = refl
flat_none (k ∷ ks) g h = λ i. h k i ++ flat_none ks g h i

-- a slice l that holds v words of an attribute `at` of each key, and then what z holds
module _ {A : Type 0} (at : Key → A) (words : A → List ℕ) (v : ℕ) (ks : List Key) (z : List ℕ) {l : List ℕ}
    (e : l ≡ flat (map (λ (k : Key). take v (words (at k))) ks) ++ drop (v * length ks) z) where
  -- all n words
  made : (n : ℕ) → ((a : A) → length (words a) ≡ n) → v ≡ n → l ≡ flat (map words (map at ks)) ++ drop (n * length ks) z
  made n wide q =
      let all : (k : Key) → take v (words (at k)) ≡ words (at k) =
      λ k. take_all v (words (at k)) (subst (λ (m : ℕ). length (words (at k)) ≤ m) (wide (at k) ∙ sym q) (le_refl (length (words (at k))))) in
      let rows = map_All (λ (k : Key). take v (words (at k))) (λ (k : Key). words (at k)) ks (All_of all ks) ∙ sym (map-map words at ks) in
      e ∙ (λ i. flat (rows i) ++ drop (q i * length ks) z)

  unmade : v ≡ 0 → l ≡ z
  unmade q =
      let none : (k : Key) → take v (words (at k)) ≡ [] = λ k. ap (λ (m : ℕ). take m (words (at k))) q in
      let start : v * length ks ≡ 0 = ap (λ (m : ℕ). m * length ks) q ∙ zero-mul (length ks) in
      e ∙ (λ i. flat_none ks (λ (k : Key). take v (words (at k))) none i ++ drop (start i) z)

-- the slices s hold the vertices ks of a mesh
module _ {w : Widths} {pts : List ℕ} {z : Store} {s : Store} {ks : List Key} (H : Holds w pts z s ks) where
  module _ (F : Frame) (is : List ℕ) where
    pub sources_held : s.sources ≡ (slices_of (mesh_of F ks is)).sources ++ drop (length ks) z.sources
    unfolding slices_of mesh_of
    sources_held = H.sources

    pub positions_held : pts ≡ F.points → s.positions ≡ (slices_of (mesh_of F ks is)).positions ++ drop (3 * length ks) z.positions
    unfolding slices_of mesh_of position_of
    positions_held q =
        H.positions
        ∙ ap (λ (p : List ℕ). flat (map (λ (k : Key). words3 (point_words p k.point)) ks) ++ drop (3 * length ks) z.positions) q
        ∙ ap (λ (r : List (List ℕ)). flat r ++ drop (3 * length ks) z.positions) (sym (map-map words3 (λ (k : Key). point_words F.points k.point) ks))

    pub colours_held : w.colour ≡ colour_words → s.colours ≡ (slices_of (mesh_of F ks is)).colours ++ drop (4 * length ks) z.colours
    unfolding slices_of mesh_of colour_of
    colours_held = made (λ (k : Key). k.colour) words4 w.colour ks z.colours H.colours 4 (λ a. refl)

    pub textures_held : w.texture ≡ texture_words → s.textures ≡ (slices_of (mesh_of F ks is)).textures ++ drop (2 * length ks) z.textures
    unfolding slices_of mesh_of texture_of
    textures_held = made (λ (k : Key). k.texture) words2 w.texture ks z.textures H.textures 2 (λ a. refl)

  -- FORMAT 10.3: before they are mended
  pub normals_held : w.normal ≡ normal_words → s.normals ≡ flat (map words3 (map (λ (k : Key). k.normal) ks)) ++ drop (3 * length ks) z.normals
  unfolding normal_of
  normals_held = made (λ (k : Key). k.normal) words3 w.normal ks z.normals H.normals 3 (λ a. refl)

  pub normals_left : w.normal ≡ 0 → s.normals ≡ z.normals
  unfolding normal_of
  normals_left = unmade (λ (k : Key). k.normal) words3 w.normal ks z.normals H.normals

  pub colours_left : w.colour ≡ 0 → s.colours ≡ z.colours
  unfolding colour_of
  colours_left = unmade (λ (k : Key). k.colour) words4 w.colour ks z.colours H.colours

  pub textures_left : w.texture ≡ 0 → s.textures ≡ z.textures
  unfolding texture_of
  textures_left = unmade (λ (k : Key). k.texture) words2 w.texture ks z.textures H.textures
