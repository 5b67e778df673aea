-- A list without one of its places: what is behind moves down by one.
use mathlib.Core.Path.{◌≡◌, refl, sym, ap, ◌∙◌}
use mathlib.Core.Bool.{Bool, true, false, not, ◌&&◌}
use mathlib.Core.List.{List, [], ◌∷◌, ◌++◌}
use Prim.Native.Nat.{ℕ, zero, suc, ◌+◌, ◌-◌, ◌<◌}
use native.Mathlib.Numerals.{add-one}
use native.Mathlib.Omega.{arith}
use borrow.Author.Tests.{eq-eqb}
use lib.Dec.{eqb}
use lib.ListN.{length, get_or, take, drop, length-drop}
use lib.Seq.{paste}
use Rattle.std.proofs.lemmas.List.Edits.{take-paste}
use Rattle.std.proofs.lemmas.List.{take_all}
use Rattle.lists.specs.Loops.{pick, any, All}
use Rattle.lists.specs.Lists.{remove}
use Rattle.lists.specs.Searches.{Once}
use Rattle.lists.proofs.Tests.{none_head, none_tail, eqb_other}
use Rattle.lists.proofs.Searches.{any_at}

module _ {A : Type 0} where
  remove_is : (l : List A) (i : ℕ) → i < length l → take i l ++ drop (suc i) l ≡ remove i l
  unfolding remove
  remove_is [] i h = let z : ⊥ = omega arith in absurd z
  remove_is (x ∷ l) zero h = refl
  remove_is (x ∷ l) (suc i) h = ap (λ (m : List A). x ∷ m) (remove_is l i (omega arith))

  pub moved_down : (l : List A) (i : ℕ) → i < length l → take (length l - 1) (paste l i (drop (i + 1) l) (length l - (i + 1))) ≡ remove i l
  moved_down l i h =
      let e : length l - 1 ≡ i + (length l - (i + 1)) = omega arith in
      let d : length (drop (i + 1) l) ≡ length l - (i + 1) = length-drop (i + 1) l in
      ap (λ (k : ℕ). take k (paste l i (drop (i + 1) l) (length l - (i + 1)))) e
      ∙ take-paste l i (drop (i + 1) l) (length l - (i + 1)) (omega arith) (omega arith)
      ∙ ap (λ (m : List A). take i l ++ m) (take_all _ _ (omega arith))
      ∙ ap (λ (j : ℕ). take i l ++ drop j l) (add-one i)
      ∙ remove_is l i h

  pub length_remove : (i : ℕ) (l : List A) → i < length l → length (remove i l) ≡ length l - 1
  unfolding remove
  length_remove i [] h = let z : ⊥ = omega arith in absurd z
  length_remove zero (x ∷ l) h = omega arith
  length_remove (suc i) (x ∷ l) h =
      let r : length (remove i l) ≡ length l - 1 = length_remove i l (omega arith) in omega arith

  pub all_remove : (Q : A → Type 0) (i : ℕ) (l : List A) → All Q l → All Q (remove i l)
  unfolding remove
  all_remove Q i [] a = tt
  all_remove Q zero (x ∷ l) a = a.1
  all_remove Q (suc i) (x ∷ l) a = (a.0, all_remove Q i l a.1)

-- ---- a search in it

module _ {A : Type 0} (f : A → Bool) where
  any_remove_none : (i : ℕ) (l : List A) → any f l ≡ false → any f (remove i l) ≡ false
  unfolding any remove
  any_remove_none i [] e = e
  any_remove_none zero (x ∷ l) e = none_tail (f x) (any f l) e
  any_remove_none (suc i) (x ∷ l) e =
      let r : any f (remove i l) ≡ false = any_remove_none i l (none_tail (f x) (any f l) e) in
      let q : f x ≡ false = none_head (f x) (any f l) e in
      rw (q, r)

pub once_remove : (i : ℕ) (l : List ℕ) → Once l → Once (remove i l)
unfolding remove
once_remove i [] o = tt
once_remove zero (x ∷ l) o = o.1
once_remove (suc i) (x ∷ l) o = (any_remove_none (eqb x) i l o.0, once_remove i l o.1)

-- the test g, of numbers but x
abbrev pub but : ℕ → (ℕ → Bool) → ℕ → Bool
but x g k = not (eqb k x) && g k

any_skip : (g : ℕ → Bool) (x : ℕ) (l : List ℕ) → any (eqb x) l ≡ false → any g l ≡ any (but x g) l
unfolding any
any_skip g x [] e = refl
any_skip g x (y ∷ l) e =
    let r : any g l ≡ any (but x g) l = any_skip g x l (none_tail (eqb x y) (any (eqb x) l) e) in
    let q : eqb y x ≡ false = eqb_other x y (none_head (eqb x y) (any (eqb x) l) e) in
    rw (q, r)

pub any_remove : (g : ℕ → Bool) (l : List ℕ) (i : ℕ) → Once l → i < length l → any g (remove i l) ≡ any (but (get_or l i 0) g) l
unfolding any remove
any_remove g [] i o h = let z : ⊥ = omega arith in absurd z
any_remove g (x ∷ l) zero o h =
    let q : eqb x x ≡ true = eq-eqb x x refl in
    any_skip g x l o.0 ∙ sym (ap (λ (b : Bool). pick (not b && g x) true (any (but x g) l)) q)
any_remove g (y ∷ l) (suc i) o h =
    let r : any g (remove i l) ≡ any (but (get_or l i 0) g) l = any_remove g l i o.1 (omega arith) in
    let q : eqb y (get_or l i 0) ≡ false = any_at (eqb y) l i o.0 (omega arith) in
    ap (λ (b : Bool). pick (g y) true b) r ∙ sym (ap (λ (b : Bool). pick (not b && g y) true (any (but (get_or l i 0) g) l)) q)
