-- Rows of one length, made by number: `tabs`.
use mathlib.Core.Path.{◌≡◌, refl, ap, ◌∙◌}
use mathlib.Core.List.{map}
use Prim.Native.Nat.{ℕ, ◌*◌, ◌/◌, ◌%◌, ◌<◌}
use native.Mathlib.Nat.{zero-add, add_comm}
use Rattle.lists.specs.Loops.{tab}
use Rattle.lists.proofs.Numbers.{column_of, row_of}
use Rattle.lists.proofs.Pieces.{flat_table, map_flat}
use Rattle.lists.proofs.Tabs.{tab_shift, map_tab}
use Rattle.lists.specs.Lists.{total, flat, tabs}
use Rattle.lists.proofs.Totals.{total_tab, total_flat}

module _ {A : Type 0} where
  -- rows of m, by number
  pub tabs_tab : (f : ℕ → ℕ → A) (n m : ℕ) → 0 < m → tabs f n m ≡ tab (λ k. f (k / m) (k % m)) (n * m) 0
  unfolding tabs
  tabs_tab f n m h =
      flat_table (λ k. f (k / m) (k % m)) m (λ i. tab (f i) m 0)
      (λ i. tab_shift (f i) (λ k. f (k / m) (k % m)) m 0 (i * m) (λ t l. rw (zero-add, add_comm (i * m) t, row_of m t i l, column_of m t i l) refl)) n

pub total_tabs : {A : Type 0} (size : A → ℕ) (f : ℕ → ℕ → A) (w : ℕ) → ((i j : ℕ) → size (f i j) ≡ w) → (n m : ℕ) → total size (tabs f n m) ≡ n * (m * w)
unfolding tabs
total_tabs size f w h n m =
    total_flat size (tab (λ i. tab (f i) m 0) n 0) ∙ total_tab (total size) (λ i. tab (f i) m 0) (m * w) (λ i. total_tab size (f i) w (h i) m 0) n 0

pub map_tabs : {A B : Type 0} (g : A → B) (f : ℕ → ℕ → A) (n m : ℕ) → map g (tabs f n m) ≡ tabs (λ (i j : ℕ). g (f i j)) n m
unfolding tabs
map_tabs g f n m =
    map_flat g (tab (λ i. tab (f i) m 0) n 0)
    ∙ ap flat (map_tab (λ i. tab (f i) m 0) (map g) n 0 ∙ (λ t. tab (λ i. map_tab (f i) g m 0 t) n 0))
