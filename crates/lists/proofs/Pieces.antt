-- Lists of one width written one after another, from a place of a list on.
use mathlib.Core.Path.{◌≡◌, refl, sym, ap, ◌∙◌, subst}
use mathlib.Core.List.{List, [], ◌∷◌, ◌++◌, map, map-append, append_assoc, append-nil}
use Prim.Native.Nat.{ℕ, zero, suc, ◌+◌, ◌-◌, ◌*◌, ◌≤◌, ◌<◌}
use native.Mathlib.Nat.{zero-add, add-zero, suc-add, add-suc, zero-mul, mul-suc, mul_comm}
use native.Mathlib.Numerals.{add-one}
use native.Mathlib.Omega.{arith}
use lib.ListN.{length, get_or, set, take, drop, length-append, length-set}
use lib.Seq.{take_all, drop-drop}
use Rattle.lists.specs.Loops.{tab}
use Rattle.lists.proofs.Numbers.{next_row, piece_room}
use Rattle.lists.proofs.Tabs.{length_tab, tab_at, tab_same, tab_add, tab_snoc}
use Rattle.lists.specs.Lists.{join_n, flat}
use Rattle.lists.proofs.Lists.{All_by, flat_at, middle}
use Rattle.lists.proofs.Totals.{flat_total, total_tab}
use Rattle.lists.specs.Parts.{spliced, Kept, Added}
use Rattle.lists.proofs.Splices.{splice_start, splice_more, set_is, spliced_front, put_size, put_part}

module _ {A : Type 0} where
  pub flat_append : (x y : List (List A)) → flat (x ++ y) ≡ flat x ++ flat y
  unfolding flat
  flat_append [] y = refl
  flat_append (l ∷ x) y = ap (λ (r : List A). l ++ r) (flat_append x y) ∙ sym (append_assoc l (flat x) (flat y))

  pub map_flat : {B : Type 0} (f : A → B) (l : List (List A)) → map f (flat l) ≡ flat (map (map f) l)
  unfolding flat
  map_flat f [] = refl
  map_flat {B} f (x ∷ l) = map-append f x (flat l) ∙ ap (λ (r : List B). map f x ++ r) (map_flat f l)

  -- one piece more
  pub flat_more : (F : ℕ → List A) (i : ℕ) → flat (tab F (i + 1) 0) ≡ flat (tab F i 0) ++ F i
  unfolding flat
  flat_more F i = ap flat (tab_snoc F i) ∙ flat_append (tab F i 0) (F i ∷ []) ∙ ap (λ (r : List A). flat (tab F i 0) ++ r) (append-nil (F i))

  -- n rows of w pieces, from piece b on
  pub flat_rows_of : (F : ℕ → List A) (w b n : ℕ) → flat (tab (λ j. flat (tab F w (b + j * w))) n 0) ≡ flat (tab F (n * w) b)
  unfolding tab flat
  flat_rows_of F w b zero = rw (zero-mul w) refl
  flat_rows_of F w b (suc n) =
      let R : ℕ → List A = λ j. flat (tab F w (b + j * w)) in
      let e : suc n * w ≡ n * w + w = ap (λ (m : ℕ). m * w) (sym (add-one n)) ∙ next_row n w in
      ap (λ (m : ℕ). flat (tab R m 0)) (sym (add-one n)) ∙ flat_more R n ∙ ap (λ (r : List A). r ++ R n) (flat_rows_of F w b n)
      ∙ sym (flat_append (tab F (n * w) b) (tab F w (b + n * w))) ∙ ap flat (sym (tab_add F (n * w) w b)) ∙ ap (λ (m : ℕ). flat (tab F m b)) (sym e)

  -- and from the first
  pub flat_rows_all : (F : ℕ → List A) (w n : ℕ) → flat (tab (λ j. flat (tab F w (j * w))) n 0) ≡ flat (tab F (n * w) 0)
  flat_rows_all F w n =
      let at : ℕ → List A = λ k. flat (tab F w k) in
      ap flat (tab_same (λ j. at (j * w)) (λ j. at (0 + j * w)) n (λ j l. ap at (sym (zero-add (j * w))))) ∙ flat_rows_of F w 0 n

  -- pieces of one element
  pub flat_ones : (f : ℕ → A) (n i : ℕ) → flat (tab (λ j. f j ∷ []) n i) ≡ tab f n i
  unfolding tab flat
  flat_ones f zero i = refl
  flat_ones f (suc n) i = ap (λ (r : List A). f i ∷ r) (flat_ones f n (suc i))

  -- pieces of w elements, which are those of one table
  pub flat_table : (f : ℕ → A) (w : ℕ) (F : ℕ → List A) → ((k : ℕ) → F k ≡ tab f w (k * w)) → (n : ℕ) → flat (tab F n 0) ≡ tab f (n * w) 0
  flat_table f w F h n =
      let one : ℕ → List A = λ k. f k ∷ [] in
      ap flat (tab_same F (λ k. flat (tab one w (k * w))) n (λ k l. h k ∙ sym (flat_ones f w (k * w)))) ∙ flat_rows_all one w n ∙ flat_ones f (n * w) 0

  -- n pieces of w elements, from number i on; from the first on
  pub length_from : (F : ℕ → List A) (w : ℕ) → ((t : ℕ) → length (F t) ≡ w) → (n i : ℕ) → length (flat (tab F n i)) ≡ n * w
  length_from F w h n i = flat_total (tab F n i) ∙ total_tab length F w h n i

  pub length_pieces : (F : ℕ → List A) (w : ℕ) → ((t : ℕ) → length (F t) ≡ w) → (i : ℕ) → length (flat (tab F i 0)) ≡ i * w
  length_pieces F w h i = length_from F w h i 0

  pub flat_rows : (f : ℕ → ℕ → List A) (m n i : ℕ) → flat (tab (λ i. flat (tab (f i) m 0)) n i) ≡ flat (flat (tab (λ i. tab (f i) m 0) n i))
  unfolding tab flat
  flat_rows f m zero i = refl
  flat_rows f m (suc n) i =
      ap (λ (r : List A). flat (tab (f i) m 0) ++ r) (flat_rows f m n (suc i)) ∙ sym (flat_append (tab (f i) m 0) (flat (tab (λ i. tab (f i) m 0) n (suc i))))

  -- one turn of a loop over the pieces, and the end
  pub flat_go : (f : ℕ → List A) (n i : ℕ) → i < n → flat (tab f (n - i) i) ≡ f i ++ flat (tab f (n - (i + 1)) (i + 1))
  unfolding tab flat
  flat_go f n i h =
      let e : n - i ≡ suc (n - (i + 1)) = omega arith in
      ap (λ (k : ℕ). flat (tab f k i)) e ∙ ap (λ (j : ℕ). f i ++ flat (tab f (n - (i + 1)) j)) (sym (add-one i))

  pub flat_end : (f : ℕ → List A) (n i : ℕ) → n ≤ i → flat (tab f (n - i) i) ≡ []
  unfolding tab flat
  flat_end f n i h = let e : n - i ≡ 0 = omega arith in ap (λ (k : ℕ). flat (tab f k i)) e

  -- each piece has at most k elements
  pub flat_most : (f : ℕ → List A) (k n i : ℕ) → ((j : ℕ) → j < n → length (f (i + j)) ≤ k) → length (flat (tab f n i)) ≤ k * n
  unfolding tab flat
  flat_most f k zero i h = omega arith
  flat_most f k (suc n) i h =
      let a : length (f i) ≤ k = rw add-zero at (h 0 (omega arith)) in
      let b : length (flat (tab f n (suc i))) ≤ k * n =
      flat_most f k n (suc i) (λ j l. rw (add-suc i j ∙ sym (suc-add i j)) at (h (suc j) (omega arith))) in
      let c : length (f i ++ flat (tab f n (suc i))) ≤ k + k * n = omega (arith, length-append (f i) (flat (tab f n (suc i))), a, b) in
      omega (arith, mul-suc k n, c)

  -- piece i, where it stands
  pub piece_at : (F : ℕ → List A) (w : ℕ) → ((t : ℕ) → length (F t) ≡ w) → (n i : ℕ) → i < n → take w (drop (i * w) (flat (tab F n 0))) ≡ F i
  piece_at F w h n i b =
      ap (λ (k : ℕ). take w (drop k (flat (tab F n 0)))) (mul_comm i w)
      ∙ flat_at w (tab F n 0) (All_by (λ (x : List A). length x ≡ w) F n (λ t l. h t)) i [] (rw (length_tab F n 0) b) ∙ tab_at F n i [] b

  -- and where all were put
  pub piece_put : (F : ℕ → List A) (w : ℕ) → ((t : ℕ) → length (F t) ≡ w) → (l : List A) (k n : ℕ) {m : List A} → k + n * w ≤ length l → m ≡ spliced l k (flat (tab F n 0))
      → (i : ℕ) → i < n → take w (drop (k + i * w) m) ≡ F i
  piece_put F w h l k n {m} room e i b =
      let s : length (flat (tab F n 0)) ≡ n * w = length_pieces F w h n in
      ap (take w) (sym (drop-drop (i * w) k m))
      ∙ middle (i * w) w (n * w) (drop k m) (flat (tab F n 0)) (omega (arith, piece_room 0 n w i (n * w) (omega arith) b))
      (put_part l k (flat (tab F n 0)) e s room ∙ sym (take_all (n * w) (flat (tab F n 0)) (omega arith)))
      ∙ piece_at F w h n i b

-- pieces given by number
pub flat_join : {A B : Type 0} (f : ℕ → List B) (g : ℕ → A → List B) (d : A) (n : ℕ) (l : List A)
    → ((j : ℕ) → j < length l → f (n + j) ≡ g (n + j) (get_or l j d)) → flat (tab f (length l) n) ≡ join_n g n l
unfolding flat tab join_n
flat_join f g d n [] same = refl
flat_join f g d n (x ∷ xs) same =
    let first : f n ≡ g n x = subst (λ (k : ℕ). f k ≡ g k x) (add-zero n) (same 0 (omega arith)) in
    let rest : flat (tab f (length xs) (suc n)) ≡ join_n g (suc n) xs
    = flat_join f g d (suc n) xs (λ j b. subst (λ (k : ℕ). f k ≡ g k (get_or xs j d)) (add-suc n j ∙ sym (suc-add n j)) (same (suc j) (omega arith))) in
    λ i. first i ++ rest i

-- pieces that are the parts of one table
pub join_tab : {A B : Type 0} (g : ℕ → A → List B) (k : ℕ → B) (start : ℕ → ℕ) (d : A) (n : ℕ) (l : List A)
    → ((j : ℕ) → j < length l → start (n + j) ≤ start (suc (n + j)))
    → ((j : ℕ) → j < length l → g (n + j) (get_or l j d) ≡ tab k (start (suc (n + j)) - start (n + j)) (start (n + j)))
    → (start n ≤ start (n + length l)) × (join_n g n l ≡ tab k (start (n + length l) - start n) (start n))
unfolding join_n tab
join_tab {A} {B} g k start d n [] rises same =
    let e : start (n + 0) ≡ start n = ap start (add-zero n) in
    let z : start (n + 0) - start n ≡ 0 = omega arith in
    (omega arith, rw z refl)
join_tab {A} {B} g k start d n (x ∷ l) rises same =
    let up : (j : ℕ) → suc n + j ≡ n + suc j = λ j. suc-add n j ∙ sym (add-suc n j) in
    let r = join_tab g k start d (suc n) l
    (λ j b. subst (λ (m : ℕ). start m ≤ start (suc m)) (sym (up j)) (rises (suc j) (omega arith)))
    (λ j b. subst (λ (m : ℕ). g m (get_or l j d) ≡ tab k (start (suc m) - start m) (start m)) (sym (up j)) (same (suc j) (omega arith))) in
    let e : n + 0 ≡ n = add-zero n in
    let p : start n ≤ start (suc n) = subst (λ (m : ℕ). start m ≤ start (suc m)) e (rises 0 (omega arith)) in
    let q : g n x ≡ tab k (start (suc n) - start n) (start n) = subst (λ (m : ℕ). g m x ≡ tab k (start (suc m) - start m) (start m)) e (same 0 (omega arith)) in
    let u : suc n + length l ≡ n + suc (length l) = up (length l) in
    let v : start (suc n) ≤ start (n + suc (length l)) = subst (λ (m : ℕ). start (suc n) ≤ start m) u r.0 in
    let w : join_n g (suc n) l ≡ tab k (start (n + suc (length l)) - start (suc n)) (start (suc n)) = subst (λ (m : ℕ). join_n g (suc n) l ≡ tab k (start m - start (suc n)) (start (suc n))) u r.1 in
    let s : start n + (start (suc n) - start n) ≡ start (suc n) = omega arith in
    let z : start (suc n) - start n + (start (n + suc (length l)) - start (suc n)) ≡ start (n + suc (length l)) - start n = omega arith in (
      omega arith,
      (λ i. q i ++ w i) ∙ ap (λ (m : ℕ). tab k (start (suc n) - start n) (start n) ++ tab k (start (n + suc (length l)) - start (suc n)) m) (sym s)
          ∙ sym (tab_add k (start (suc n) - start n) (start (n + suc (length l)) - start (suc n)) (start n)) ∙ ap (λ (m : ℕ). tab k m (start n)) z,
    )

-- ---- pieces written one after another

-- a loop: of l from place k on the first i of n pieces are written
pub record Pieces {A : Type 0} (F : ℕ → List A) (n : ℕ) (l : List A) (k i : ℕ) (made : List A) : Type 0 where
  pub so_far : i ≤ n
  pub is : made ≡ spliced l k (flat (tab F i 0))
  pub size : length made ≡ length l

module _ {A : Type 0} {F : ℕ → List A} {n : ℕ} {l : List A} {k : ℕ} where
  pub pieces_none : Pieces F n l k 0 l
  unfolding tab flat
  pieces_none = record { so_far = omega arith; is = splice_start l k; size = refl }

  -- the next, at place a
  pub pieces_more : (w : ℕ) → ((t : ℕ) → length (F t) ≡ w) → {i a : ℕ} {made made' p : List A} → k + n * w ≤ length l → Pieces F n l k i made → i < n → a ≡ k + i * w → p ≡ F i
      → made' ≡ spliced made a p → Pieces F n l k (i + 1) made'
  pieces_more w h {i} {a} {made} {made'} {p} room P b ea ep em =
      let e : length (flat (tab F i 0)) ≡ i * w = length_pieces F w h i in
      let f : length (F i) ≡ w = h i in
      let r = piece_room k n w i (length l) room b in
      let g : length (flat (tab F i 0) ++ F i) ≡ i * w + w = length-append (flat (tab F i 0)) (F i) ∙ (λ t. e t + f t) in
      let q : made' ≡ spliced l k (flat (tab F i 0) ++ F i) =
      rw (em, ep, P.is) (splice_more l k a (flat (tab F i 0)) (F i) (omega arith) (omega arith)) in
      record { so_far = omega arith; is = q ∙ ap (spliced l k) (sym (flat_more F i)); size = put_size l k (flat (tab F i 0) ++ F i) q g (omega arith) }

  pub pieces_all : {i : ℕ} {made : List A} → Pieces F n l k i made → n ≤ i → made ≡ spliced l k (flat (tab F n 0))
  pieces_all {i} P h =
      let e : i ≡ n = (let s = P.so_far in omega arith) in
      P.is ∙ ap (λ (j : ℕ). spliced l k (flat (tab F j 0))) e

  -- what stands below is kept
  pub pieces_kept : {i : ℕ} {made : List A} → Pieces F n l k i made → k ≤ length l → Kept k l made
  pieces_kept {i} P h = record { len = P.size; front = ap (take k) P.is ∙ spliced_front l k (flat (tab F i 0)) h }

-- n pieces of w elements from number a on, and m behind them
pub pieces_then : {A : Type 0} (F : ℕ → List A) (w : ℕ) → ((t : ℕ) → length (F t) ≡ w) → (l : List A) (k a n m : ℕ) {j b : ℕ} {l' l'' : List A}
    → b ≡ a + n → j ≡ k + n * w → j + m * w ≤ length l → l' ≡ spliced l k (flat (tab F n a)) → l'' ≡ spliced l' j (flat (tab F m b))
    → l'' ≡ spliced l k (flat (tab F (n + m) a))
pieces_then {A} F w h l k a n m {j} {b} eb ej room e e' =
    let p = flat (tab F n a) in
    let q = flat (tab F m b) in
    e' ∙ ap (λ (r : List A). spliced r j q) e
    ∙ splice_more l k j p q (omega (arith, ej, length_from F w h n a)) (omega (arith, ej, room, length_from F w h n a, length_from F w h m b))
    ∙ ap (spliced l k) (sym (flat_append (tab F n a) (tab F m b)) ∙ ap flat (ap (λ (i : ℕ). tab F n a ++ tab F m i) eb ∙ sym (tab_add F n m a)))

-- ---- pieces that differ in length, where there is room for all

-- a loop: of l from place k on the first i of n pieces are written, and the next goes to place a
pub record Uneven {A : Type 0} (F : ℕ → List A) (n : ℕ) (l : List A) (k i a : ℕ) (made : List A) : Type 0 where
  pub so_far : i ≤ n
  pub is : made ≡ spliced l k (flat (tab F i 0))
  pub next : a ≡ k + length (flat (tab F i 0))
  pub size : length made ≡ length l

module _ {A : Type 0} where
  -- the first pieces and the next are no longer than all
  pub uneven_room : (F : ℕ → List A) (n i : ℕ) → i < n → length (flat (tab F i 0)) + length (F i) ≤ length (flat (tab F n 0))
  uneven_room F n i b =
      let m : n ≡ i + 1 + (n - (i + 1)) = omega arith in
      let e : flat (tab F n 0) ≡ flat (tab F (i + 1) 0) ++ flat (tab F (n - (i + 1)) (0 + (i + 1))) =
      ap (λ (j : ℕ). flat (tab F j 0)) m ∙ ap flat (tab_add F (i + 1) (n - (i + 1)) 0) ∙ flat_append (tab F (i + 1) 0) (tab F (n - (i + 1)) (0 + (i + 1))) in
      omega (
        arith,
        ap length e ∙ length-append (flat (tab F (i + 1) 0)) (flat (tab F (n - (i + 1)) (0 + (i + 1)))),
        ap length (flat_more F i) ∙ length-append (flat (tab F i 0)) (F i),
      )

module _ {A : Type 0} {F : ℕ → List A} {n : ℕ} {l : List A} {k : ℕ} where
  pub uneven_none : Uneven F n l k 0 k l
  unfolding tab flat
  uneven_none = record { so_far = omega arith; is = splice_start l k; next = sym (add-zero k); size = refl }

  pub uneven_more : {i a b : ℕ} {made made' : List A} → k + length (flat (tab F n 0)) ≤ length l → Uneven F n l k i a made → i < n → b ≡ a + length (F i)
      → made' ≡ spliced made a (F i) → Uneven F n l k (i + 1) b made'
  uneven_more {i} {a} {b} {made} {made'} room P h eb em =
      let r = uneven_room F n i h in
      let x = P.next in
      let g : length (flat (tab F i 0) ++ F i) ≡ length (flat (tab F i 0)) + length (F i) = length-append (flat (tab F i 0)) (F i) in
      let q : made' ≡ spliced l k (flat (tab F i 0) ++ F i) =
      rw (em, P.is) (splice_more l k a (flat (tab F i 0)) (F i) x (omega arith)) in
      record {
        so_far = omega arith;
        is = q ∙ ap (spliced l k) (sym (flat_more F i));
        next = omega (arith, ap length (flat_more F i) ∙ g);
        size = put_size l k (flat (tab F i 0) ++ F i) q g (omega arith);
      }

  pub uneven_all : {i a : ℕ} {made : List A} → Uneven F n l k i a made → n ≤ i → made ≡ spliced l k (flat (tab F n 0))
  uneven_all {i} P h =
      let e : i ≡ n = (let s = P.so_far in omega arith) in
      P.is ∙ ap (λ (j : ℕ). spliced l k (flat (tab F j 0))) e

-- ---- one element at a time

-- a loop: of l from place k on the first i of n elements are written
pub record Singles {A : Type 0} (f : ℕ → A) (n : ℕ) (l : List A) (k i : ℕ) (made : List A) : Type 0 where
  pub so_far : i ≤ n
  pub is : made ≡ spliced l k (tab f i 0)
  pub size : length made ≡ length l

module _ {A : Type 0} {f : ℕ → A} {n : ℕ} {l : List A} {k : ℕ} where
  pub singles_none : Singles f n l k 0 l
  unfolding tab
  singles_none = record { so_far = omega arith; is = splice_start l k; size = refl }

  pub singles_more : {i : ℕ} {made : List A} (v : A) → k + n ≤ length l → Singles f n l k i made → i < n → v ≡ f i → Singles f n l k (i + 1) (set made (k + i) v)
  singles_more {i} {made} v h P b e =
      let s = P.size in
      let t = length_tab f i 0 in
      record {
        so_far = omega arith;
        is = set_is made (k + i) v (omega arith) ∙ (λ j. spliced (P.is j) (k + i) (e j ∷ []))
            ∙ splice_more l k (k + i) (tab f i 0) (f i ∷ []) (omega arith) (omega arith) ∙ ap (spliced l k) (sym (tab_snoc f i));
        size = length-set made (k + i) v ∙ s;
      }

  pub singles_all : {i : ℕ} {made : List A} → Singles f n l k i made → n ≤ i → made ≡ spliced l k (tab f n 0)
  singles_all {i} P h =
      let e : i ≡ n = (let s = P.so_far in omega arith) in
      P.is ∙ ap (λ (j : ℕ). spliced l k (tab f j 0)) e

-- ---- what was added: nothing, n elements, and then more

pub none_added : {A : Type 0} (l : List A) (at : ℕ) → Added spliced [] at l at l
none_added l at = record { next = sym (add-zero at); made = splice_start l at }

pub added_by : {A : Type 0} (p l : List A) (at : ℕ) {n : ℕ} {l' : List A} → length p ≡ n → l' ≡ spliced l at p → Added spliced p at l (at + n) l'
added_by p l at e m = record { next = ap (λ (k : ℕ). at + k) (sym e); made = m }

module _ {A : Type 0} (l : List A) {l' l'' : List A} {a b d : ℕ} (x y : List A) where
  pub added_both : a + length (x ++ y) ≤ length l → Added spliced x a l b l' → Added spliced y b l' d l'' → Added spliced (x ++ y) a l d l''
  added_both room p q =
      let e = length-append x y in
      record {
        next = q.next ∙ (omega (arith, p.next));
        made = q.made ∙ ap (λ (m : List A). spliced m b y) p.made ∙ splice_more l a b x y p.next (omega arith);
      }

pub uneven_added : {A : Type 0} {F : ℕ → List A} {n : ℕ} {l : List A} {k i a : ℕ} {m : List A} → Uneven F n l k i a m → n ≤ i → Added spliced (flat (tab F n 0)) k l a m
uneven_added {A} {F} {n} {l} {k} {i} {a} {m} P h =
    let e : i ≡ n = (let s = P.so_far in omega arith) in
    record { next = P.next ∙ ap (λ (j : ℕ). k + length (flat (tab F j 0))) e; made = uneven_all P h }
