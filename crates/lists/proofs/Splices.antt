-- A part of a list replaced: by a part that was lent, by stores, and at the end of what is made so far; and what is there then.
use mathlib.Core.Path.{◌≡◌, refl, sym, ap, ap₂, ◌∙◌}
use mathlib.Core.Logic.{inr, ⊎_elim}
use mathlib.Core.List.{List, [], ◌∷◌, ◌++◌, append_assoc, append-nil}
use Prim.Native.Nat.{ℕ, ◌+◌, ◌-◌, ◌≤◌, ◌<◌}
use native.Mathlib.Nat.{add-zero, add_assoc, zero-add}
use native.Mathlib.Omega.{arith}
use lib.ListN.{length, get_or, set, take, drop, replicate, length-append, length-take, length-drop, drop_of_length-le, length-replicate, get_or-replicate, take-append-drop}
use lib.Seq.{paste, take_at, drop_at, drop-append-add, drop-drop, length-take-le, sets, sets-eq, get_or-take, get_or-drop, take_all}
use borrow.Rule.Slice.PartMut.{put_mid}
use Rattle.std.proofs.lemmas.List.{take_more}
use Rattle.lists.specs.Loops.{tab}
use Rattle.lists.specs.Parts.{seg, spliced, Kept, Out, TableOf}
use Rattle.lists.proofs.Tabs.{length_tab, tab_at}
use Rattle.lists.proofs.Keep.{set_miss, part_seg, length_seg}
use Rattle.lists.proofs.Numbers.{le_or_lt}

module _ {A : Type 0} where
  -- a list whose front p is made: the next part
  pub grow : (p d xs ys : List A) (a : ℕ) → xs ≡ p ++ drop a d → length p ≡ a → spliced xs a ys ≡ p ++ ys ++ drop (a + length ys) d
  unfolding spliced
  grow p d xs ys a q l =
      rw (q, take_at p (drop a d) a l)
      (ap (λ (r : List A). p ++ ys ++ r) (ap (λ (k : ℕ). drop (k + length ys) (p ++ drop a d)) (sym l) ∙ drop-append-add p (drop a d) (length ys) ∙ drop-drop (length ys) a d))

  -- nothing replaced
  pub splice_start : (l : List A) (a : ℕ) → l ≡ spliced l a []
  unfolding spliced
  splice_start l a = rw (add-zero, append-nil (take a l)) (sym (take-append-drop a l))

  -- what stands there, put again
  pub splice_own : (l : List A) (a n : ℕ) → a + n ≤ length l → l ≡ spliced l a (take n (drop a l))
  unfolding spliced
  splice_own l a n h =
      let d = drop a l in
      let e : length (take n d) ≡ n = length-take-le n d (omega (arith, length-drop a l)) in
      sym (take-append-drop a l)
      ∙ ap (λ (r : List A). take a l ++ r) (sym (take-append-drop n d))
      ∙ sym (append_assoc (take a l) (take n d) (drop n d))
      ∙ ap (λ (r : List A). take a l ++ take n d ++ r) (drop-drop n a l ∙ ap (λ (k : ℕ). drop (a + k) l) (sym e))

  -- from the start of the list
  pub splice_front : (l p : List A) → spliced l 0 p ≡ p ++ drop (length p) l
  unfolding spliced
  splice_front l p = ap (λ (k : ℕ). p ++ drop k l) (zero-add (length p))

  -- a part, and one behind it
  join_in : (l : List A) (a : ℕ) (p q : List A) → a ≤ length l → spliced (spliced l a p) (a + length p) q ≡ spliced l a (p ++ q)
  unfolding spliced
  join_in l a p q h =
      let e : length (take a l ++ p) ≡ a + length p = length-append (take a l) p ∙ ap (λ (k : ℕ). k + length p) (length-take-le a l h) in
      let d =
      sym (drop-drop (length q) (a + length p) ((take a l ++ p) ++ drop (a + length p) l))
      ∙ ap (drop (length q)) (drop_at (take a l ++ p) (drop (a + length p) l) (a + length p) e)
      ∙ drop-drop (length q) (a + length p) l in
      rw (take_at (take a l ++ p) (drop (a + length p) l) (a + length p) e, d, length-append p q, ← add_assoc a (length p) (length q))
      (simp append_assoc)

  -- past the end there is nothing to replace
  past : (l : List A) (a : ℕ) (p : List A) → length l ≤ a → spliced l a p ≡ l ++ p
  unfolding spliced
  past l a p h = rw (take_all a l h, drop_of_length-le l {i = a + length p} (omega arith)) (append-nil (l ++ p))

  -- after a write to `s[a..e]`: k is e - a, and q is what the part holds now
  pub mid_spliced : (a k : ℕ) (l : List A) {q p : List A} → q ≡ p → length p ≡ k → put_mid a k l q ≡ spliced l a p
  unfolding spliced
  mid_spliced a k l {q} {p} e s =
      let d : drop k (drop a l) ≡ drop (a + length p) l = drop-drop k a l ∙ ap (λ (n : ℕ). drop (a + n) l) (sym s) in
      ap₂ (λ (x y : List A). take a l ++ (x ++ y)) e d ∙ sym (append_assoc (take a l) p (drop (a + length p) l))

  -- n elements copied from place b, up to e, to place a
  pub copied : (l : List A) (a b e n : ℕ) → e ≡ b + n → e ≤ length l → paste l a (drop b l) (e - b) ≡ spliced l a (seg l b n)
  unfolding spliced
  copied l a b e n q h =
      let s = part_seg l b e n q in
      let k : length (seg l b n) ≡ e - b = length_seg l b n (omega arith) ∙ omega arith in
      λ i. take a l ++ s i ++ drop (a + sym k i) l

  pub splice_join : (l : List A) (a : ℕ) (p q : List A) → spliced l a (p ++ q) ≡ spliced (spliced l a p) (a + length p) q
  splice_join l a p q =
      ⊎_elim (λ (h : a ≤ length l). sym (join_in l a p q h))
      (λ (h : length l < a).
      past l a (p ++ q) (omega arith) ∙ sym (append_assoc l p q)
      ∙ sym (ap (λ (r : List A). spliced r (a + length p) q) (past l a p (omega arith)) ∙ past (l ++ p) (a + length p) q (omega (arith, length-append l p))))
      (le_or_lt a (length l))

  pub splice_more : (l : List A) (a b : ℕ) (p q : List A) → b ≡ a + length p → a + length p + length q ≤ length l → spliced (spliced l a p) b q ≡ spliced l a (p ++ q)
  splice_more l a b p q eb h = rw eb (sym (splice_join l a p q))

  -- ---- stores

  pub sets_spliced : (l : List A) (i : ℕ) (vs : List A) → i + length vs ≤ length l → sets l i vs ≡ spliced l i vs
  unfolding spliced
  sets_spliced l i vs h = sets-eq vs l i h

  pub set_is : (l : List A) (a : ℕ) (x : A) → a < length l → set l a x ≡ spliced l a (x ∷ [])
  set_is l a x h = sets_spliced l a (x ∷ []) (omega arith)

  -- one element more of r
  pub set_more : (l : List A) (a : ℕ) (r : List A) (x : A) {j : ℕ} {m : List A} → a + length r ≤ length l → j < length r → length m ≡ length l
      → m ≡ spliced l a (take j r) → x ≡ get_or r j x → set m (a + j) x ≡ spliced l a (take (j + 1) r)
  set_more l a r x {j} {m} room b size e is =
      let z : length (take j r) ≡ j = length-take-le j r (omega arith) in
      set_is m (a + j) x (omega arith) ∙ ap (λ (q : List A). spliced q (a + j) (x ∷ [])) e
      ∙ splice_more l a (a + j) (take j r) (x ∷ []) (omega arith) (omega arith)
      ∙ ap (λ (y : A). spliced l a (take j r ++ (y ∷ []))) is ∙ ap (spliced l a) (sym (take_more r j x b))

  -- ---- what is there then

  pub spliced_front : (l : List A) (a : ℕ) (p : List A) → a ≤ length l → take a (spliced l a p) ≡ take a l
  unfolding spliced
  spliced_front l a p h =
      rw (append_assoc (take a l) p (drop (a + length p) l)) (take_at (take a l) (p ++ drop (a + length p) l) a (length-take-le a l h))

  module _ (l : List A) (a : ℕ) (p : List A) {m : List A} {n : ℕ} (e : m ≡ spliced l a p) (s : length p ≡ n) (h : a + n ≤ length l) where
    low : length (take a l) ≡ a
    low = length-take-le a l (omega arith)

    joined : m ≡ take a l ++ (p ++ drop (a + length p) l)
    unfolding spliced
    joined = e ∙ append_assoc (take a l) p (drop (a + length p) l)

    from : drop a m ≡ p ++ drop (a + length p) l
    from = ap (drop a) joined ∙ drop_at (take a l) (p ++ drop (a + length p) l) a low

    pub put_size : length m ≡ length l
    unfolding spliced
    put_size = ap length e ∙ simp (length-append, length-take, length-drop) (omega arith)

    pub put_front : take a m ≡ take a l
    put_front = ap (take a) e ∙ spliced_front l a p (omega arith)

    pub put_part : take n (drop a m) ≡ p
    put_part = ap (take n) from ∙ take_at p (drop (a + length p) l) n s

    pub put_above : drop (a + n) m ≡ drop (a + n) l
    put_above = sym (drop-drop n a m) ∙ ap (drop n) from ∙ drop_at p (drop (a + length p) l) n s ∙ ap (λ (k : ℕ). drop (a + k) l) s

    -- by number
    pub put_at : (d : A) (j : ℕ) → j < n → get_or m (a + j) d ≡ get_or p j d
    put_at d j b = sym (get_or-drop a m j d) ∙ sym (get_or-take n (drop a m) j d b) ∙ ap (λ (r : List A). get_or r j d) put_part

    pub put_out : (d : A) (i : ℕ) → Out a n i → get_or m i d ≡ get_or l i d
    put_out d i o = ⊎_elim
        (λ (b : i < a). sym (get_or-take a m i d b) ∙ ap (λ (r : List A). get_or r i d) put_front ∙ get_or-take a l i d b)
        (λ (b : a + n ≤ i).
        let q : a + n + (i - (a + n)) ≡ i = omega arith in
        ap (λ (k : ℕ). get_or m k d) (sym q) ∙ sym (get_or-drop (a + n) m (i - (a + n)) d) ∙ ap (λ (r : List A). get_or r (i - (a + n)) d) put_above
        ∙ get_or-drop (a + n) l (i - (a + n)) d ∙ ap (λ (k : ℕ). get_or l k d) q) o

-- what is kept, and what was put
module _ {A : Type 0} (l : List A) (a : ℕ) (p : List A) {m : List A} {n : ℕ} (e : m ≡ spliced l a p) (s : length p ≡ n) (h : a + n ≤ length l) where
  pub put_kept : Kept a l m
  put_kept = record { len = put_size l a p e s h; front = put_front l a p e s h }

  pub put_seg : seg m a n ≡ p
  unfolding seg
  put_seg = put_part l a p e s h

-- both, of n elements p
pub put_gives : {A : Type 0} {l m : List A} {a n : ℕ} (p : List A) → m ≡ spliced l a p → length p ≡ n → a + n ≤ length l → Kept a l m × (seg m a n ≡ p)
put_gives {l} {a = a} p e s h = (put_kept l a p e s h, put_seg l a p e s h)

-- a table that was put
pub put_table : (l : List ℕ) (f : ℕ → ℕ) {m : List ℕ} {a n : ℕ} → a + n ≤ length l → m ≡ spliced l a (tab f n 0) → TableOf m a n f
put_table l f {a = a} {n = n} h e = record { at = λ j b. put_at l a (tab f n 0) e (length_tab f n 0) h 0 j b ∙ tab_at f n j 0 b }

pub put_same : (l : List ℕ) (v : ℕ) {m : List ℕ} {a n : ℕ} → a + n ≤ length l → m ≡ spliced l a (replicate n v) → TableOf m a n (λ j. v)
put_same l v {a = a} {n = n} h e = record { at = λ j b. put_at l a (replicate n v) e (length-replicate n v) h 0 j b ∙ get_or-replicate n j v 0 b }

-- a store outside a table
pub table_miss : {f : ℕ → ℕ} (w : List ℕ) (a n i v : ℕ) → ((j : ℕ) → j < n → a + j ≡ i → ⊥) → TableOf w a n f → TableOf (set w i v) a n f
table_miss w a n i v h T = record { at = λ j b. set_miss w i v (a + j) (h j b) ∙ T.at j b }

pub table_put : {f : ℕ → ℕ} (w : List ℕ) {w' : List ℕ} (a n b : ℕ) (p : List ℕ) → w' ≡ spliced w b p → b + length p ≤ length w → b + length p ≤ a → TableOf w a n f → TableOf w' a n f
table_put w a n b p e h l T = record { at = λ j q. put_out w b p e refl h 0 (a + j) (inr (omega arith)) ∙ T.at j q }

-- what stands before a splice
pub put_behind : {A : Type 0} (l : List A) {m : List A} (a : ℕ) (p : List A) → m ≡ spliced l a p → a ≤ length l → take a m ≡ take a l
put_behind l a p e h = ap (take a) e ∙ spliced_front l a p h

-- the second of two at one place is what counts
pub splice_over : {A : Type 0} (l : List A) (a : ℕ) (xs ys : List A) → length xs ≡ length ys → a + length ys ≤ length l → spliced (spliced l a xs) a ys ≡ spliced l a ys
unfolding spliced
splice_over {A} l a xs ys e h =
    let p : take a (spliced l a xs) ≡ take a l = put_front l a xs refl e h in
    let q : drop (a + length ys) (spliced l a xs) ≡ drop (a + length ys) l = put_above l a xs refl e h in
    ap₂ (λ (x y : List A). x ++ ys ++ y) p q
