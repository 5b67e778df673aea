-- How the lists of a mesh are made: numbered pieces joined, rows, keys without repeats in the order of first meeting, words compared, numbers all below one,
-- and a list without one of its places.
use Rattle.std.specs.Prelude.{Bool, true, false, ◌&&◌, ◌||◌, cond, List, [], ◌∷◌, ◌++◌, ℕ, zero, suc, ◌+◌, eqb, ltb}
use Rattle.lists.specs.Loops.{tab}

-- each element with its number, counted from n: faces by their number (FORMAT 6.2)
module _ {A B : Type 0} where
  unfoldable pub map_n : (ℕ → A → B) → ℕ → List A → List B
  map_n g n [] = []
  map_n g n (x ∷ xs) = g n x ∷ map_n g (suc n) xs

  unfoldable pub join_n : (ℕ → A → List B) → ℕ → List A → List B
  join_n g n [] = []
  join_n g n (x ∷ xs) = g n x ++ join_n g (suc n) xs

-- FORMAT 4: the sizes added up
unfoldable pub total : {A : Type 0} → (A → ℕ) → List A → ℕ
total size [] = 0
total size (x ∷ xs) = size x + total size xs

module _ {K : Type 0} (same : K → K → Bool) where
  -- FORMAT 11: whether k was met
  unfoldable pub has : K → List K → Bool
  has k [] = false
  has k (v ∷ vs) = same k v || has k vs

  -- FORMAT 11: the number of the first that is the same as k; the length where there is none
  unfoldable pub place : K → List K → ℕ
  place k [] = zero
  place k (v ∷ vs) = cond (same k v) zero (suc (place k vs))

  -- FORMAT 11, PolyMesh::build (or_insert_with): k is put at the end, unless it was met
  unfoldable pub meet : List K → K → List K
  meet vs k = cond (has k vs) vs (vs ++ (k ∷ []))

  -- FORMAT 11, PolyMesh::build (dedup): the list vs, and then those of the second list that were not met before
  unfoldable pub firsts : List K → List K → List K
  firsts vs [] = vs
  firsts vs (k ∷ ks) = firsts (meet vs k) ks

-- FORMAT 11: any number of words are the same, bit for bit
unfoldable pub same_words : List ℕ → List ℕ → Bool
same_words [] [] = true
same_words [] (y ∷ ys) = false
same_words (x ∷ xs) [] = false
same_words (x ∷ xs) (y ∷ ys) = eqb x y && same_words xs ys

-- FORMAT 5: one after the other, as a slice holds them
unfoldable pub flat : {A : Type 0} → List (List A) → List A
flat [] = []
flat (x ∷ xs) = x ++ flat xs

-- FORMAT 8.3, 8.4, the double loops of elevation_grid and extrusion: f 0 0, f 0 1, .. : n rows of m
unfoldable pub tabs : {A : Type 0} → (ℕ → ℕ → A) → ℕ → ℕ → List A
tabs f n m = flat (tab (λ i. tab (f i) m 0) n 0)

-- FORMAT 6.2: whether every entry is the number of one of p points
unfoldable pub all_below : ℕ → List ℕ → Bool
all_below p [] = true
all_below p (w ∷ ws) = ltb w p && all_below p ws

-- FORMAT 12.3, ear_clip (idx.remove): the list without its place i
unfoldable pub remove : {A : Type 0} → ℕ → List A → List A
remove i [] = []
remove zero (x ∷ xs) = xs
remove (suc i) (x ∷ xs) = x ∷ remove i xs
