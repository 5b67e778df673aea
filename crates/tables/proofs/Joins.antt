-- What is joined face by face over the soup of the tables, by the corners that are left.
use mathlib.Core.Path.{◌≡◌, sym, ap, ◌∙◌}
use mathlib.Core.List.{List, [], ◌++◌}
use Prim.Native.Nat.{ℕ, zero, suc, ◌+◌, ◌<◌}
use native.Mathlib.Omega.{arith}
use Rattle.lists.specs.Loops.{tab}
use Rattle.lists.specs.Lists.{join_n}
use Rattle.mesh.specs.Soup.{Face}
use Rattle.tables.specs.declared.layout.Plan.{Plan}
use Rattle.tables.specs.Soups.{start_in, face_in, soup_in, Sound}

-- rest c: what the corners from c on give
module _ {B : Type 0} {w : List ℕ} {t : Plan} (S : Sound w t) (g : ℕ → Face → List B) (rest : ℕ → List B) (end : rest t.count ≡ [])
    (step : (n : ℕ) → n < t.faces → g n (face_in w t n) ++ rest (start_in w t (suc n)) ≡ rest (start_in w t n)) where
  join_from : (k n : ℕ) → n + k ≡ t.faces → join_n g n (tab (face_in w t) k n) ≡ rest (start_in w t n)
  unfolding tab join_n
  join_from zero n h =
      let e : n ≡ t.faces = omega arith in
      sym (ap (λ (j : ℕ). rest (start_in w t j)) e ∙ ap rest S.last ∙ end)
  join_from (suc k) n h =
      ap (λ (l : List B). g n (face_in w t n) ++ l) (join_from k (suc n) (omega arith)) ∙ step n (omega arith)

  pub join_soup : join_n g 0 (soup_in w t) ≡ rest 0
  unfolding soup_in
  join_soup = join_from t.faces 0 (omega arith) ∙ ap rest S.first
