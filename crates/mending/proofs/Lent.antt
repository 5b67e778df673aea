-- The mesh that is lent: where its vertices lie, and that its first normals depend on nothing else.
use mathlib.Core.Path.{◌≡◌, refl, sym, ap, ◌∙◌, subst}
use mathlib.Core.Bool.{◌||◌, cond}
use mathlib.Core.List.{List, [], ◌∷◌}
use Prim.Native.Nat.{ℕ, ◌≤◌, ◌<◌}
use native.Mathlib.Nat.{zero-add}
use lib.Dec.{eqb}
use lib.ListN.{get_or, get_or-eq_default}
use Rattle.lists.specs.Loops.{tab, All}
use Rattle.lists.proofs.Tabs.{length_tab, get_or_tab}
use Rattle.polygon.specs.Points.{spot}
use Rattle.mesh.specs.Words.{floats, point_words}
use Rattle.mesh.specs.Soup.{Frame}
use Rattle.mesh.specs.Normals.{or_else}
use Rattle.mesh.specs.Vertices.{Key, no_key}
use Rattle.mesh.specs.Mend.{vertex_spot, tri_normal, first_normal}
use Rattle.mending.specs.Mend.{lent_frame, lent_key, lent_keys}

pub floats_spot : (ps : List ℕ) (v : ℕ) → floats (point_words ps v) ≡ spot ps v
unfolding point_words spot
floats_spot ps v = refl

module _ (ps ns : List ℕ) (count : ℕ) where
  pub key_at_lem : (v : ℕ) → v < count → get_or (lent_keys ns count) v no_key ≡ lent_key ns v
  unfolding lent_keys
  key_at_lem v h = get_or_tab (lent_key ns) count 0 v no_key h ∙ ap (lent_key ns) (zero-add v)

  -- a vertex, and what is read beyond the last
  pub spot_in : (v : ℕ) → v < count → vertex_spot (lent_frame ps) (lent_keys ns count) v ≡ floats (point_words ps v)
  unfolding vertex_spot lent_key
  spot_in v h = ap (λ (k : Key). spot ps k.point) (key_at_lem v h) ∙ sym (floats_spot ps v)

  pub spot_out : (v : ℕ) → count ≤ v → vertex_spot (lent_frame ps) (lent_keys ns count) v ≡ floats (point_words ps 0)
  unfolding vertex_spot lent_keys
  spot_out v h =
      ap (λ (k : Key). spot ps k.point) (get_or-eq_default (tab (lent_key ns) count 0) no_key (subst (λ (n : ℕ). n ≤ v) (sym (length_tab (lent_key ns) count 0)) h))
      ∙ sym (floats_spot ps 0)

-- meshes whose vertices lie alike, as far as the triangles use them, have the same first normals
pub first_same : (F G : Frame) (vs ws : List Key) (v : ℕ) (is : List ℕ) → All (λ (a : ℕ). vertex_spot F vs a ≡ vertex_spot G ws a) is
    → first_normal F vs v is ≡ first_normal G ws v is
unfolding first_normal
first_same F G vs ws v [] h = refl
first_same F G vs ws v (a ∷ []) h = refl
first_same F G vs ws v (a ∷ b ∷ []) h = refl
first_same F G vs ws v (a ∷ b ∷ c ∷ is) h =
    let below : first_normal F vs v is ≡ first_normal G ws v is = first_same F G vs ws v is h.1.1.1 in
    λ i. cond (eqb a v || (eqb b v || eqb c v)) (or_else (tri_normal (h.0 i) (h.1.0 i) (h.1.1.0 i)) (below i)) (below i)
