-- Laws of the lists that a mesh is made of: a fact of each element, numbered pieces joined, fronts and backs, slices, lists without repeats, words.
use mathlib.Core.Path.{◌≡◌, refl, sym, ap, ◌∙◌, subst}
use mathlib.Core.Bool.{Bool, true, false, ◌||◌, cond, true≢false}
use mathlib.Core.List.{List, [], ◌∷◌, ◌++◌, map, map-append, append_assoc}
use Prim.Native.Nat.{ℕ, zero, suc, ◌+◌, ◌*◌, ◌-◌, ◌≤◌, ◌<◌, suc-le-suc, ◌%◌}
use native.Mathlib.Nat.{mul-zero, mul-suc, add_comm, le_of_suc-le-suc, not-suc-le-zero, suc-add, add-suc, add-zero, zero-lt-suc, suc-ne-zero, suc_inj, zero-add, sub-zero, zero-sub, suc-sub-suc, eq-or-lt_of_le}
use native.Mathlib.Numerals.{add-one}
use native.Mathlib.Omega.{arith}
use borrow.Author.Tests.{ltb-true, ltb-false}
use mathlib.Core.Logic.{⊎_elim}
use lib.Dec.{T, eqb, ltb, eqb→eq, eqb_refl}
use lib.Ieee.Fits.{and_i, and_l, and_r}
use lib.ListN.{length, get_or, take, drop, length-append, length-map, get_or-append, length-drop, length-take}
use lib.Seq.{take_at, drop-append-add, get_or_at, take-nil, take-take, drop-drop, drop-cons, drop_at, get_or-take, get_or-drop}
use Rattle.lists.specs.Loops.{tab, All}
use Rattle.lists.specs.Lists.{map_n, join_n, total, has, place, meet, firsts, same_words, flat}
use Rattle.lists.proofs.Loops.{on_last, on_more}

-- ---- a fact of each element

module _ {A : Type 0} where
  pub All_of : {P : A → Type 0} → ((x : A) → P x) → (l : List A) → All P l
  All_of h [] = tt
  All_of h (x ∷ xs) = (h x, All_of h xs)

  pub All_map : {P Q : A → Type 0} → ((x : A) → P x → Q x) → (l : List A) → All P l → All Q l
  All_map f [] h = tt
  All_map f (x ∷ xs) h = (f x h.0, All_map f xs h.1)

  pub All_append : (P : A → Type 0) (l m : List A) → All P l → All P m → All P (l ++ m)
  All_append P [] m h k = k
  All_append P (x ∷ xs) m h k = (h.0, All_append P xs m h.1 k)

  pub All_get_or : (P : A → Type 0) (l : List A) → All P l → (d : A) (i : ℕ) → i < length l → P (get_or l i d)
  All_get_or P [] h d i b = absurd (not-suc-le-zero b)
  All_get_or P (x ∷ xs) h d zero b = h.0
  All_get_or P (x ∷ xs) h d (suc i) b = All_get_or P xs h.1 d i (le_of_suc-le-suc b)

  -- two functions that agree on each element
  pub map_All : {B : Type 0} (f g : A → B) (l : List A) → All (λ x. f x ≡ g x) l → map f l ≡ map g l
  map_All f g [] h = refl
  map_All {B = B} f g (x ∷ xs) h = λ i. h.0 i ∷ map_All f g xs h.1 i

  pub get_or_map_lt : {B : Type 0} (f : A → B) (l : List A) (i : ℕ) (d : B) (e : A) → i < length l → get_or (map f l) i d ≡ f (get_or l i e)
  get_or_map_lt f [] i d e b = absurd (not-suc-le-zero b)
  get_or_map_lt f (x ∷ xs) zero d e b = refl
  get_or_map_lt f (x ∷ xs) (suc i) d e b = get_or_map_lt f xs i d e (le_of_suc-le-suc b)

-- whatever is read beyond the last
pub get_or_any : {A : Type 0} (l : List A) (i : ℕ) (d e : A) → i < length l → get_or l i d ≡ get_or l i e
get_or_any [] i d e b = absurd (not-suc-le-zero b)
get_or_any (x ∷ l) zero d e b = refl
get_or_any (x ∷ l) (suc i) d e b = get_or_any l i d e (le_of_suc-le-suc b)

pub All_of_map : {A B : Type 0} (P : B → Type 0) (f : A → B) (l : List A) → All (λ (x : A). P (f x)) l → All P (map f l)
All_of_map P f [] h = tt
All_of_map P f (x ∷ xs) h = (h.0, All_of_map P f xs h.1)

pub All_at_map : {A B : Type 0} (P : B → Type 0) (f : A → B) (l : List A) → All P (map f l) → All (λ (x : A). P (f x)) l
All_at_map P f [] h = tt
All_at_map P f (x ∷ xs) h = (h.0, All_at_map P f xs h.1)

pub All_both : {A : Type 0} (P Q : A → Type 0) (l : List A) → All P l → All Q l → All (λ (x : A). P x × Q x) l
All_both P Q [] h k = tt
All_both P Q (x ∷ xs) h k = ((h.0, k.0), All_both P Q xs h.1 k.1)

module _ {A : Type 0} (Q : A → Type 0) where
  pub All_tab : (f : ℕ → A) (k i : ℕ) → ((t : ℕ) → t < k → Q (f (i + t))) → All Q (tab f k i)
  unfolding tab
  All_tab f zero i h = tt
  All_tab f (suc k) i h = (
    subst (λ (t : ℕ). Q (f t)) (add-zero i) (h 0 (omega arith)),
    All_tab f k (suc i) (λ t l. subst (λ (s : ℕ). Q (f s)) (add-suc i t ∙ sym (suc-add i t)) (h (suc t) (omega arith))),
  )

  -- from place 0
  pub All_by : (f : ℕ → A) (k : ℕ) → ((t : ℕ) → t < k → Q (f t)) → All Q (tab f k 0)
  All_by f k h = All_tab f k 0 (λ t l. subst (λ (s : ℕ). Q (f s)) (sym (zero-add t)) (h t l))

  pub All_flat : (l : List (List A)) → All (λ (x : List A). All Q x) l → All Q (flat l)
  unfolding flat
  All_flat [] h = tt
  All_flat (x ∷ xs) h = All_append Q x (flat xs) h.0 (All_flat xs h.1)

pub All_map_n : {A B : Type 0} (Q : B → Type 0) (g : ℕ → A → B) → ((n : ℕ) (x : A) → Q (g n x)) → (n : ℕ) (l : List A) → All Q (map_n g n l)
unfolding map_n
All_map_n Q g h n [] = tt
All_map_n Q g h n (x ∷ xs) = (h n x, All_map_n Q g h (suc n) xs)

-- ---- fronts, backs and parts

module _ {A : Type 0} where
  pub drop_take : (k n : ℕ) (l : List A) → drop k (take n l) ≡ take (n - k) (drop k l)
  drop_take zero n l = ap (λ (m : ℕ). take m l) (sym (sub-zero n))
  drop_take (suc k) zero l = sym (ap (λ (m : ℕ). take m (drop (suc k) l)) (zero-sub (suc k)))
  drop_take (suc k) (suc n) [] = sym (take-nil (suc n - suc k))
  drop_take (suc k) (suc n) (x ∷ xs) = drop_take k n xs ∙ ap (λ (m : ℕ). take m (drop k xs)) (sym (suc-sub-suc n k))

  pub drop_next : (d : A) (l : List A) (k : ℕ) → k < length l → drop k l ≡ get_or l k d ∷ drop (k + 1) l
  drop_next d l k h = drop-cons l k d h ∙ ap (λ (j : ℕ). get_or l k d ∷ drop j l) (sym (add-one k))

  -- the head of what is left, and the rest
  pub head_left : (l : List A) (c : ℕ) (x : A) (r : List A) (d : A) → drop c l ≡ x ∷ r → (get_or l c d ≡ x) × (drop (suc c) l ≡ r)
  head_left [] zero x r d h = let z : ◌≡◌ {A = ℕ} 0 1 = cc in absurd (omega arith)
  head_left [] (suc c) x r d h = let z : ◌≡◌ {A = ℕ} 0 1 = cc in absurd (omega arith)
  head_left (y ∷ l) zero x r d h = (cc, cc)
  head_left (y ∷ l) (suc c) x r d h = head_left l c x r d h

  -- three of them
  pub drop_three : (d : A) (l : List A) (k : ℕ) → k + 3 ≤ length l → drop k l ≡ get_or l k d ∷ get_or l (k + 1) d ∷ get_or l (k + 2) d ∷ drop (k + 3) l
  drop_three d l k h =
      let e1 : suc k ≡ k + 1 = omega arith in
      let e2 : suc (k + 1) ≡ k + 2 = omega arith in
      let e3 : suc (k + 2) ≡ k + 3 = omega arith in
      drop-cons l k d (omega arith)
      ∙ ap (λ (r : List A). get_or l k d ∷ r)
      (ap (λ (j : ℕ). drop j l) e1 ∙ drop-cons l (k + 1) d (omega arith)
      ∙ ap (λ (r : List A). get_or l (k + 1) d ∷ r)
      (ap (λ (j : ℕ). drop j l) e2 ∙ drop-cons l (k + 2) d (omega arith) ∙ ap (λ (j : ℕ). get_or l (k + 2) d ∷ drop j l) e3))

  -- two lists with the same front have the same shorter fronts
  pub front : (k n : ℕ) (l m : List A) → k ≤ n → take n l ≡ take n m → take k l ≡ take k m
  front k n l m h e = sym (take-take k n l h) ∙ ap (take k) e ∙ take-take k n m h

  -- and with the same back, the same shorter backs
  pub back : (n k : ℕ) (l m : List A) → n ≤ k → drop n l ≡ drop n m → drop k l ≡ drop k m
  back n k l m h e =
      let f : n + (k - n) ≡ k = omega arith in
      ap (λ (i : ℕ). drop i l) (sym f) ∙ sym (drop-drop (k - n) n l) ∙ ap (drop (k - n)) e ∙ drop-drop (k - n) n m ∙ ap (λ (i : ℕ). drop i m) f

  -- a part of a front
  pub middle : (a k n : ℕ) (l m : List A) → a + k ≤ n → take n l ≡ take n m → take k (drop a l) ≡ take k (drop a m)
  middle a k n l m h e =
      let f : (a + k) - a ≡ k = omega arith in
      ap (λ (i : ℕ). take i (drop a l)) (sym f) ∙ sym (drop_take a (a + k) l) ∙ ap (drop a) (front (a + k) n l m h e) ∙ drop_take a (a + k) m ∙ ap (λ (i : ℕ). take i (drop a m)) f

-- ---- numbered: each element with its number, counted from n

module _ {A B : Type 0} where
  pub length_map_n : (g : ℕ → A → B) (n : ℕ) (l : List A) → length (map_n g n l) ≡ length l
  unfolding map_n
  length_map_n g n [] = refl
  length_map_n g n (x ∷ xs) = ap suc (length_map_n g (suc n) xs)

  pub get_or_map_n : (g : ℕ → A → B) (n : ℕ) (l : List A) (i : ℕ) (d : B) (e : A) → i < length l → get_or (map_n g n l) i d ≡ g (n + i) (get_or l i e)
  unfolding map_n
  get_or_map_n g n [] i d e b = absurd (not-suc-le-zero b)
  get_or_map_n g n (x ∷ xs) zero d e b = ap (λ (k : ℕ). g k x) (sym (add-zero n))
  get_or_map_n g n (x ∷ xs) (suc i) d e b =
      get_or_map_n g (suc n) xs i d e (le_of_suc-le-suc b) ∙ ap (λ (k : ℕ). g k (get_or xs i e)) (suc-add n i ∙ sym (add-suc n i))

  pub take_map_n : (g : ℕ → A → B) (n j : ℕ) (l : List A) → take j (map_n g n l) ≡ map_n g n (take j l)
  unfolding map_n
  take_map_n g n zero l = refl
  take_map_n g n (suc j) [] = refl
  take_map_n g n (suc j) (x ∷ xs) = ap (λ (r : List B). g n x ∷ r) (take_map_n g (suc n) j xs)

  pub map_n_same : (g h : ℕ → A → B) (n : ℕ) (l : List A) → ((j : ℕ) → j < length l → (x : A) → g (n + j) x ≡ h (n + j) x) → map_n g n l ≡ map_n h n l
  unfolding map_n
  map_n_same g h n [] same = refl
  map_n_same g h n (x ∷ xs) same =
      let first : g n x ≡ h n x = subst (λ (k : ℕ). g k x ≡ h k x) (add-zero n) (same 0 (omega arith) x) in
      let rest : map_n g (suc n) xs ≡ map_n h (suc n) xs =
      map_n_same g h (suc n) xs (λ j b y. subst (λ (k : ℕ). g k y ≡ h k y) (add-suc n j ∙ sym (suc-add n j)) (same (suc j) (omega arith) y)) in
      λ i. first i ∷ rest i

  pub map_n_append : (g : ℕ → A → B) (n : ℕ) (x y : List A) → map_n g n (x ++ y) ≡ map_n g n x ++ map_n g (n + length x) y
  unfolding map_n
  map_n_append g n [] y = let e : n ≡ n + 0 = omega arith in ap (λ (k : ℕ). map_n g k y) e
  map_n_append g n (a ∷ x) y =
      let e : suc n + length x ≡ n + suc (length x) = omega arith in
      ap (λ (r : List B). g n a ∷ r) (map_n_append g (suc n) x y ∙ ap (λ (k : ℕ). map_n g (suc n) x ++ map_n g k y) e)

  pub join_n_append : (g : ℕ → A → List B) (n : ℕ) (l m : List A) → join_n g n (l ++ m) ≡ join_n g n l ++ join_n g (n + length l) m
  unfolding join_n
  join_n_append g n [] m = ap (λ (k : ℕ). join_n g k m) (sym (add-zero n))
  join_n_append g n (a ∷ as') m =
      ap (λ (r : List B). g n a ++ r)
      (join_n_append g (suc n) as' m ∙ ap (λ (k : ℕ). join_n g (suc n) as' ++ join_n g k m) (suc-add n (length as') ∙ sym (add-suc n (length as'))))
      ∙ sym (append_assoc (g n a) (join_n g (suc n) as') (join_n g (n + suc (length as')) m))

pub map_join_n : {A B C : Type 0} (f : B → C) (g : ℕ → A → List B) (n : ℕ) (l : List A) → map f (join_n g n l) ≡ join_n (λ (n : ℕ) (x : A). map f (g n x)) n l
unfolding join_n
map_join_n f g n [] = refl
map_join_n {C = C} f g n (x ∷ l) = map-append f (g n x) (join_n g (suc n) l) ∙ ap (λ (r : List C). map f (g n x) ++ r) (map_join_n f g (suc n) l)

-- pieces that are the same, number by number
pub join_n_same : {A A' B : Type 0} (g : ℕ → A → List B) (h : ℕ → A' → List B) (d : A) (e : A') (n : ℕ) (l : List A) (m : List A') → length l ≡ length m
    → ((j : ℕ) → j < length l → g (n + j) (get_or l j d) ≡ h (n + j) (get_or m j e)) → join_n g n l ≡ join_n h n m
unfolding join_n
join_n_same g h d e n [] [] q same = refl
join_n_same g h d e n [] (y ∷ ys) q same = absurd (suc-ne-zero (length ys) (sym q))
join_n_same g h d e n (x ∷ xs) [] q same = absurd (suc-ne-zero (length xs) q)
join_n_same {B = B} g h d e n (x ∷ xs) (y ∷ ys) q same =
    let first : g n x ≡ h n y = subst (λ (k : ℕ). g k x ≡ h k y) (add-zero n) (same 0 (omega arith)) in
    let rest : join_n g (suc n) xs ≡ join_n h (suc n) ys =
    join_n_same g h d e (suc n) xs ys (suc_inj q)
    (λ j b. subst (λ (k : ℕ). g k (get_or xs j d) ≡ h k (get_or ys j e)) (add-suc n j ∙ sym (suc-add n j)) (same (suc j) (omega arith))) in
    λ i. first i ++ rest i

-- a fact of each piece, at its own number, is one of the whole
pub All_join_n : {A B : Type 0} (P : B → Type 0) (g : ℕ → A → List B) (d : A) (n : ℕ) (l : List A)
    → ((j : ℕ) → j < length l → All P (g (n + j) (get_or l j d))) → All P (join_n g n l)
unfolding join_n
All_join_n P g d n [] h = tt
All_join_n P g d n (x ∷ xs) h =
    All_append P (g n x) (join_n g (suc n) xs) (subst (λ (k : ℕ). All P (g k x)) (add-zero n) (h 0 (omega arith)))
    (All_join_n P g d (suc n) xs (λ j b. subst (λ (k : ℕ). All P (g k (get_or xs j d))) (add-suc n j ∙ sym (suc-add n j)) (h (suc j) (omega arith))))

-- the sizes of the pieces are known: how long the whole is, and the part that piece j made
module _ {A B : Type 0} (g : ℕ → A → List B) (size : A → ℕ) (sized : (n : ℕ) (x : A) → length (g n x) ≡ size x) where
  pub length_join_n : (n : ℕ) (l : List A) → length (join_n g n l) ≡ total size l
  unfolding join_n total
  length_join_n n [] = refl
  length_join_n n (x ∷ xs) = length-append (g n x) (join_n g (suc n) xs) ∙ (λ i. sized n x i + length_join_n (suc n) xs i)

  pub piece : (l : List A) (n j : ℕ) (d : A) → j < length l
      → take (size (get_or l j d)) (drop (total size (take j l)) (join_n g n l)) ≡ g (n + j) (get_or l j d)
  unfolding join_n total
  piece [] n j d b = absurd (not-suc-le-zero b)
  piece (x ∷ xs) n zero d b = take_at (g n x) (join_n g (suc n) xs) (size x) (sized n x) ∙ ap (λ (k : ℕ). g k x) (sym (add-zero n))
  piece (x ∷ xs) n (suc j) d b =
      ap (λ (k : ℕ). take (size (get_or xs j d)) (drop (k + total size (take j xs)) (g n x ++ join_n g (suc n) xs))) (sym (sized n x))
      ∙ ap (λ (r : List B). take (size (get_or xs j d)) r) (drop-append-add (g n x) (join_n g (suc n) xs) (total size (take j xs)))
      ∙ piece xs (suc n) j d (le_of_suc-le-suc b)
      ∙ ap (λ (k : ℕ). g k (get_or xs j d)) (suc-add n j ∙ sym (add-suc n j))

-- ---- elements that are each n long, one after the other, as a slice holds them

module _ {A : Type 0} where
  pub flat_at : (n : ℕ) (l : List (List A)) → All (λ (x : List A). length x ≡ n) l → (v : ℕ) (d : List A) → v < length l
      → take n (drop (n * v) (flat l)) ≡ get_or l v d
  unfolding flat
  flat_at n [] h v d b = absurd (not-suc-le-zero b)
  flat_at n (x ∷ xs) h zero d b = ap (λ (k : ℕ). take n (drop k (x ++ flat xs))) (mul-zero n) ∙ take_at x (flat xs) n h.0
  flat_at n (x ∷ xs) h (suc v) d b =
      ap (λ (k : ℕ). take n (drop k (x ++ flat xs))) (mul-suc n v ∙ add_comm (n * v) n ∙ ap (λ (k : ℕ). k + n * v) (sym h.0))
      ∙ ap (take n) (drop-append-add x (flat xs) (n * v))
      ∙ flat_at n xs h.1 v d (le_of_suc-le-suc b)

  pub length_flat : (n : ℕ) (l : List (List A)) → All (λ (x : List A). length x ≡ n) l → length (flat l) ≡ n * length l
  unfolding flat
  length_flat n [] h = sym (mul-zero n)
  length_flat n (x ∷ xs) h =
      length-append x (flat xs) ∙ ap (λ (k : ℕ). k + length (flat xs)) h.0 ∙ ap (λ (k : ℕ). n + k) (length_flat n xs h.1)
      ∙ add_comm n (n * length xs) ∙ sym (mul-suc n (length xs))

module _ {A : Type 0} (w : A → List ℕ) (n : ℕ) (wide : (x : A) → length (w x) ≡ n) where
  all_wide : (l : List A) → All (λ (x : List ℕ). length x ≡ n) (map w l)
  all_wide [] = tt
  all_wide (x ∷ xs) = (wide x, all_wide xs)

  pub in_flat : (l : List A) (v : ℕ) (d : A) → v < length l → take n (drop (n * v) (flat (map w l))) ≡ w (get_or l v d)
  in_flat l v d b = flat_at n (map w l) (all_wide l) v [] (subst (λ (k : ℕ). v < k) (sym (length-map l w)) b) ∙ get_or_map_lt w l v [] d b

  pub length_words : (l : List A) → length (flat (map w l)) ≡ n * length l
  length_words l = length_flat n (map w l) (all_wide l) ∙ ap (λ (k : ℕ). n * k) (length-map l w)

-- ---- tests

pub or_right : (a b : Bool) → b ≡ true → (a || b) ≡ true
or_right true b e = refl
or_right false b e = e

T_or_left : (a b : Bool) → T a → T (a || b)
T_or_left true b t = tt
T_or_left false b t = absurd t

T_or_right : (a b : Bool) → T b → T (a || b)
T_or_right true b t = tt
T_or_right false b t = t

pub T_true : (b : Bool) → T b → b ≡ true
T_true true t = refl
T_true false t = absurd t

-- ---- lists without repeats, in the order of first meeting; `same` is any test

module _ {K : Type 0} (same : K → K → Bool) where
  has_left : (k : K) (vs ws : List K) → T (has same k vs) → T (has same k (vs ++ ws))
  unfolding has
  has_left k [] ws t = absurd t
  has_left k (v ∷ vs) ws t = go (same k v) (λ (u : T (has same k vs)). has_left k vs ws u) t
    where
      go : (b : Bool) → (T (has same k vs) → T (has same k (vs ++ ws))) → T (b || has same k vs) → T (b || has same k (vs ++ ws))
      go true below t = tt
      go false below t = below t

  has_right : (k : K) (vs ws : List K) → T (has same k ws) → T (has same k (vs ++ ws))
  unfolding has
  has_right k [] ws t = t
  has_right k (v ∷ vs) ws t = T_or_right (same k v) (has same k (vs ++ ws)) (has_right k vs ws t)

  -- what was met stays
  has_meet : (k x : K) (vs : List K) → T (has same k vs) → T (has same k (meet same vs x))
  unfolding has meet
  has_meet k x vs t = go (has same x vs)
    where
      go : (b : Bool) → T (has same k (cond b vs (vs ++ (x ∷ []))))
      go true = t
      go false = has_left k vs (x ∷ []) t

  pub has_firsts_old : (k : K) (vs ks : List K) → T (has same k vs) → T (has same k (firsts same vs ks))
  unfolding has meet firsts
  has_firsts_old k vs [] t = t
  has_firsts_old k vs (x ∷ ks) t = has_firsts_old k (meet same vs x) ks (has_meet k x vs t)

  -- what a piece has, the whole has
  pub has_join_n : {A : Type 0} (g : ℕ → A → List K) (k : K) (l : List A) (n j : ℕ) (d : A) → j < length l
      → T (has same k (g (n + j) (get_or l j d))) → T (has same k (join_n g n l))
  unfolding join_n has
  has_join_n g k [] n j d b t = absurd (not-suc-le-zero b)
  has_join_n g k (x ∷ xs) n zero d b t =
      has_left k (g n x) (join_n g (suc n) xs) (subst (λ (m : ℕ). T (has same k (g m x))) (add-zero n) t)
  has_join_n g k (x ∷ xs) n (suc j) d b t =
      has_right k (g n x) (join_n g (suc n) xs)
      (has_join_n g k xs (suc n) j d (le_of_suc-le-suc b) (subst (λ (m : ℕ). T (has same k (g m (get_or xs j d)))) (add-suc n j ∙ sym (suc-add n j)) t))

  pub place_lt : (k : K) (vs : List K) → T (has same k vs) → place same k vs < length vs
  unfolding has place
  place_lt k [] t = absurd t
  place_lt k (v ∷ vs) t = go (same k v) (λ (u : T (has same k vs)). place_lt k vs u) t
    where
      go : (b : Bool) → (T (has same k vs) → place same k vs < length vs) → T (b || has same k vs) → cond b zero (suc (place same k vs)) < suc (length vs)
      go true below t = zero-lt-suc (length vs)
      go false below t = suc-le-suc (below t)

  -- a number given at first meeting stays
  pub place_left : (k : K) (vs ws : List K) → T (has same k vs) → place same k (vs ++ ws) ≡ place same k vs
  unfolding has place
  place_left k [] ws t = absurd t
  place_left k (v ∷ vs) ws t = go (same k v) (λ (u : T (has same k vs)). place_left k vs ws u) t
    where
      go : (b : Bool) → (T (has same k vs) → place same k (vs ++ ws) ≡ place same k vs) → T (b || has same k vs)
          → cond b zero (suc (place same k (vs ++ ws))) ≡ cond b zero (suc (place same k vs))
      go true below t = refl
      go false below t = ap suc (below t)

  place_meet : (k x : K) (vs : List K) → T (has same k vs) → place same k (meet same vs x) ≡ place same k vs
  unfolding has place meet
  place_meet k x vs t = go (has same x vs)
    where
      go : (b : Bool) → place same k (cond b vs (vs ++ (x ∷ []))) ≡ place same k vs
      go true = refl
      go false = place_left k vs (x ∷ []) t

  pub place_firsts : (k : K) (vs ks : List K) → T (has same k vs) → place same k (firsts same vs ks) ≡ place same k vs
  unfolding has place meet firsts
  place_firsts k vs [] t = refl
  place_firsts k vs (x ∷ ks) t = place_firsts k (meet same vs x) ks (has_meet k x vs t) ∙ place_meet k x vs t

  -- one more is met: it is there already, or is put at the end
  pub meet_old : (k : K) (vs : List K) → has same k vs ≡ true → meet same vs k ≡ vs
  unfolding meet
  meet_old k vs h = ap (λ (b : Bool). cond b vs (vs ++ (k ∷ []))) h

  pub meet_new : (k : K) (vs : List K) → has same k vs ≡ false → meet same vs k ≡ vs ++ (k ∷ [])
  unfolding meet
  meet_new k vs h = ap (λ (b : Bool). cond b vs (vs ++ (k ∷ []))) h

  pub firsts_append : (vs ks ls : List K) → firsts same vs (ks ++ ls) ≡ firsts same (firsts same vs ks) ls
  unfolding meet firsts
  firsts_append vs [] ls = refl
  firsts_append vs (k ∷ ks) ls = firsts_append (meet same vs k) ks ls

  length_meet : (k : K) (vs : List K) → length (meet same vs k) ≤ suc (length vs)
  unfolding has meet
  length_meet k vs = go (has same k vs)
    where
      go : (b : Bool) → length (cond b vs (vs ++ (k ∷ []))) ≤ suc (length vs)
      go true = omega arith
      go false = let e : length (vs ++ (k ∷ [])) ≡ length vs + 1 = length-append vs (k ∷ []) in omega arith

  pub length_firsts : (vs ks : List K) → length (firsts same vs ks) ≤ length vs + length ks
  unfolding meet firsts
  length_firsts vs [] = omega arith
  length_firsts vs (k ∷ ks) =
      let a : length (firsts same (meet same vs k) ks) ≤ length (meet same vs k) + length ks = length_firsts (meet same vs k) ks in
      let b : length (meet same vs k) ≤ suc (length vs) = length_meet k vs in
      omega arith

  -- the search has found none: the new one's number is the length
  pub place_none : (k : K) (vs : List K) → has same k vs ≡ false → place same k vs ≡ length vs
  unfolding has place
  place_none k [] n = refl
  place_none k (v ∷ vs) n = go (same k v) n (λ (m : has same k vs ≡ false). place_none k vs m)
    where
      go : (c : Bool) → (c || has same k vs) ≡ false → (has same k vs ≡ false → place same k vs ≡ length vs) → cond c zero (suc (place same k vs)) ≡ suc (length vs)
      go true n below = absurd (true≢false n)
      go false n below = ap suc (below n)

  -- each has its own number: no two are the same
  abbrev pub Distinct : List K → Type 0
  Distinct vs = (v : ℕ) (d : K) → v < length vs → place same (get_or vs v d) vs ≡ v

-- where `same` holds of a thing and itself
module _ {K : Type 0} (same : K → K → Bool) (self : (a : K) → T (same a a)) where
  -- what is met is there, and an element of a list is in it
  pub meet_has : (k : K) (vs : List K) → T (has same k (meet same vs k))
  unfolding has meet
  meet_has k vs = go (has same k vs) refl
    where
      go : (b : Bool) → has same k vs ≡ b → T (has same k (cond b vs (vs ++ (k ∷ []))))
      go true e = subst (λ (b : Bool). T b) (sym e) tt
      go false e = has_right same k vs (k ∷ []) (T_or_left (same k k) false (self k))

  pub has_get_or : (l : List K) (i : ℕ) (d : K) → i < length l → T (has same (get_or l i d) l)
  unfolding has
  has_get_or [] i d b = absurd (not-suc-le-zero b)
  has_get_or (x ∷ xs) zero d b = T_or_left (same x x) (has same x xs) (self x)
  has_get_or (x ∷ xs) (suc i) d b = T_or_right (same (get_or xs i d) x) (has same (get_or xs i d) xs) (has_get_or xs i d (le_of_suc-le-suc b))

  place_end : (k : K) (vs : List K) → has same k vs ≡ false → place same k (vs ++ (k ∷ [])) ≡ length vs
  unfolding has place
  place_end k [] n = ap (λ (c : Bool). cond c zero (suc zero)) (T_true (same k k) (self k))
  place_end k (v ∷ vs) n = go (same k v) n (λ (m : has same k vs ≡ false). place_end k vs m)
    where
      go : (c : Bool) → (c || has same k vs) ≡ false → (has same k vs ≡ false → place same k (vs ++ (k ∷ [])) ≡ length vs)
          → cond c zero (suc (place same k (vs ++ (k ∷ [])))) ≡ suc (length vs)
      go true n below = absurd (true≢false n)
      go false n below = ap suc (below n)

  snoc_distinct : (k : K) (vs : List K) → Distinct same vs → has same k vs ≡ false → Distinct same (vs ++ (k ∷ []))
  unfolding has place
  snoc_distinct k vs D n v d b = go (ltb v (length vs)) refl
    where
      go : (t : Bool) → ltb v (length vs) ≡ t → place same (get_or (vs ++ (k ∷ [])) v d) (vs ++ (k ∷ [])) ≡ v
      go true t =
          let h : v < length vs = ltb-true v (length vs) t in
          ap (λ (z : K). place same z (vs ++ (k ∷ []))) (get_or-append vs (k ∷ []) d v h) ∙ place_left same (get_or vs v d) vs (k ∷ []) (has_get_or vs v d h) ∙ D v d h
      go false t =
          let e : length vs ≡ v = omega (arith, length-append vs (k ∷ []), ltb-false v (length vs) t) in
          ap (λ (z : K). place same z (vs ++ (k ∷ []))) (get_or_at vs k [] d v e) ∙ place_end k vs n ∙ e

  meet_distinct : (k : K) (vs : List K) → Distinct same vs → Distinct same (meet same vs k)
  unfolding has meet
  meet_distinct k vs D = go (has same k vs) refl
    where
      go : (b : Bool) → has same k vs ≡ b → Distinct same (cond b vs (vs ++ (k ∷ [])))
      go true n = D
      go false n = snoc_distinct k vs D n

  pub firsts_distinct : (vs ks : List K) → Distinct same vs → Distinct same (firsts same vs ks)
  unfolding meet firsts
  firsts_distinct vs [] D = D
  firsts_distinct vs (k ∷ ks) D = firsts_distinct (meet same vs k) ks (meet_distinct k vs D)

-- where `same` tells things apart too
module _ {K : Type 0} (same : K → K → Bool) (sound : (a b : K) → T (same a b) → a ≡ b) where
  -- at the number of k stands k
  pub get_or_place : (k : K) (vs : List K) (d : K) → T (has same k vs) → get_or vs (place same k vs) d ≡ k
  unfolding has place
  get_or_place k [] d t = absurd t
  get_or_place k (v ∷ vs) d t = go (same k v) (sound k v) (λ (u : T (has same k vs)). get_or_place k vs d u) t
    where
      go : (b : Bool) → (T b → k ≡ v) → (T (has same k vs) → get_or vs (place same k vs) d ≡ k) → T (b || has same k vs)
          → get_or (v ∷ vs) (cond b zero (suc (place same k vs))) d ≡ k
      go true eq below t = sym (eq tt)
      go false eq below t = below t

  module _ (self : (a : K) → T (same a a)) where
    pub has_firsts_new : (k : K) (vs ks : List K) → T (has same k ks) → T (has same k (firsts same vs ks))
    unfolding has meet firsts
    has_firsts_new k vs [] t = absurd t
    has_firsts_new k vs (x ∷ ks) t = go (same k x) (sound k x) (λ (u : T (has same k ks)). has_firsts_new k (meet same vs x) ks u) t
      where
        go : (b : Bool) → (T b → k ≡ x) → (T (has same k ks) → T (has same k (firsts same (meet same vs x) ks))) → T (b || has same k ks)
            → T (has same k (firsts same (meet same vs x) ks))
        go true eq below t =
            subst (λ (z : K). T (has same z (firsts same (meet same vs x) ks))) (sym (eq tt)) (has_firsts_old same x (meet same vs x) ks (meet_has same self x vs))
        go false eq below t = below t

-- ---- words: that any number of them are the same is one fact

pub same_words_sound : (a b : List ℕ) → T (same_words a b) → a ≡ b
unfolding same_words
same_words_sound [] [] t = refl
same_words_sound [] (y ∷ ys) t = absurd t
same_words_sound (x ∷ xs) [] t = absurd t
same_words_sound (x ∷ xs) (y ∷ ys) t =
    λ i. eqb→eq x y (and_l (eqb x y) (same_words xs ys) t) i ∷ same_words_sound xs ys (and_r (eqb x y) (same_words xs ys) t) i

pub same_words_self : (a : List ℕ) → T (same_words a a)
unfolding same_words
same_words_self [] = tt
same_words_self (x ∷ xs) = and_i (eqb x x) (same_words xs xs) (eqb_refl x) (same_words_self xs)

-- ---- mapped, cut and joined

pub map_part : {A B : Type 0} (f : A → B) (n k : ℕ) (l : List A) → map f (take n (drop k l)) ≡ take n (drop k (map f l))
map_part f n k l = fore n (drop k l) ∙ ap (take n) (aft k l)
  where
    fore : (n : ℕ) (l : List _) → map f (take n l) ≡ take n (map f l)
    fore zero l = refl
    fore (suc n) [] = refl
    fore (suc n) (x ∷ l) = ap (λ (r : List _). f x ∷ r) (fore n l)

    aft : (k : ℕ) (l : List _) → map f (drop k l) ≡ drop k (map f l)
    aft zero l = refl
    aft (suc k) [] = refl
    aft (suc k) (x ∷ l) = aft k l

pub map_map : {A B C : Type 0} (g : B → C) (f : A → B) (l : List A) → map g (map f l) ≡ map (λ (x : A). g (f x)) l
map_map g f [] = refl
map_map g f (x ∷ l) = ap (λ (r : List _). g (f x) ∷ r) (map_map g f l)

pub cond_map : {A B : Type 0} (f : A → B) (c : Bool) (x : A) (l : List A) → map f (cond c (x ∷ l) l) ≡ cond c (f x ∷ map f l) (map f l)
cond_map f true x l = refl
cond_map f false x l = refl

pub all_low : (n : ℕ) (us : List ℕ) → All (λ (g : ℕ). g < n) us → (k g : ℕ) → k < length us → g ≡ get_or us k 0 → g < n
all_low n us a k g h e = rw e (All_get_or (λ (g : ℕ). g < n) us a 0 k h)

pub no_elements : {A : Type 0} (l : List A) → length l ≡ 0 → l ≡ []
no_elements [] e = refl
no_elements (x ∷ l) e = let z : ⊥ = omega arith in absurd z

pub drop_past : {A : Type 0} (p u q : List A) (n k : ℕ) → length p ≡ n → length u ≡ k → drop (n + k) (p ++ (u ++ q)) ≡ q
drop_past p u q n k e f = ap (λ (i : ℕ). drop (i + k) (p ++ (u ++ q))) (sym e) ∙ drop-append-add p (u ++ q) k ∙ drop_at u q k f

pub drop_filled : {A : Type 0} (z p : List A) (a n : ℕ) → length p ≡ a → drop (a + n) (p ++ drop a z) ≡ drop (a + n) z
drop_filled z p a n e = sym (drop-drop n a (p ++ drop a z)) ∙ ap (drop n) (drop_at p (drop a z) a e) ∙ drop-drop n a z

pub length_filled : {A : Type 0} (z p : List A) (a : ℕ) → length p ≡ a → a ≤ length z → length (p ++ drop a z) ≡ length z
length_filled z p a e h = length-append p (drop a z) ∙ omega (arith, length-drop a z)

pub three_at : {A : Type 0} (d : A) (m : List A) (a : ℕ) → a + 3 ≤ length m → take 3 (drop a m) ≡ get_or m a d ∷ get_or m (a + 1) d ∷ get_or m (a + 2) d ∷ []
three_at d m a h = ap (take 3) (drop_three d m a h)

pub one_more : {A : Type 0} (x : List A) (c : A) (k : ℕ) → length x ≤ k → length (x ++ (c ∷ [])) ≤ suc k
one_more x c k h = omega (arith, length-append x (c ∷ []))

pub join_most : {A : Type 0} (x y : List A) {j k : ℕ} → length x ≤ j → length y ≤ k → length (x ++ y) ≤ j + k
join_most x y {j} {k} p q = omega (arith, length-append x y, p, q)

pub cond_long : {A : Type 0} (b : Bool) (x y : List A) {n : ℕ} → length x ≡ n → length y ≡ n → length (cond b x y) ≡ n
cond_long true x y e f = e
cond_long false x y e f = f

pub next_around : (x : ℕ) (r : List ℕ) (j : ℕ) → j < length r → get_or (x ∷ r) ((suc j + 1) % suc (length r)) 0 ≡ get_or (r ++ (x ∷ [])) (suc j) 0
next_around x r j b = ⊎_elim at_end inside (eq-or-lt_of_le b)
  where
    w : suc j < suc (length r)
    w = omega arith

    at_end : suc j ≡ length r → get_or (x ∷ r) ((suc j + 1) % suc (length r)) 0 ≡ get_or (r ++ (x ∷ [])) (suc j) 0
    at_end e = ap (λ (k : ℕ). get_or (x ∷ r) k 0) (sym (on_last (suc (length r)) (suc j) w (omega arith))) ∙ sym (get_or_at r x [] 0 (suc j) (sym e))

    inside : suc j < length r → get_or (x ∷ r) ((suc j + 1) % suc (length r)) 0 ≡ get_or (r ++ (x ∷ [])) (suc j) 0
    inside q =
        let n : suc j + 1 ≡ suc (suc j) = omega arith in
        ap (λ (k : ℕ). get_or (x ∷ r) k 0) (sym (on_more (suc (length r)) (suc j) w (λ (z : suc j + 1 ≡ suc (length r)). omega arith)) ∙ n) ∙ sym (get_or-append r (x ∷ []) 0 (suc j) q)

-- a slice that holds what is made, and beyond it what it held
pub beyond : {A : Type 0} (made z : List A) (n : ℕ) {l : List A} → length made ≡ n → l ≡ made ++ drop n z → l ≡ made ++ drop (length made) z
beyond made z n e h = h ∙ ap (λ (k : ℕ). made ++ drop k z) (sym e)

-- what stands in a back, and in a part, stands in the whole
pub in_drop : {A : Type 0} (d : A) (l : List A) (s i : ℕ) → i < length (drop s l) → (s + i < length l) × (get_or l (s + i) d ≡ get_or (drop s l) i d)
in_drop d l s i h = (omega (arith, length-drop s l), sym (get_or-drop s l i d))

pub in_part : {A : Type 0} (d : A) (l : List A) (s m i : ℕ) → i < length (take m (drop s l)) → (s + i < length l) × (get_or l (s + i) d ≡ get_or (take m (drop s l)) i d)
in_part d l s m i h =
    let b = length-take m (drop s l) in
    let q = in_drop d l s i (omega arith) in
    (q.0, q.1 ∙ sym (get_or-take m (drop s l) i d (omega arith)))
