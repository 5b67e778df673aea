-- Laws of tests.
use mathlib.Core.Path.{◌≡◌, refl, sym}
use mathlib.Core.Bool.{Bool, true, false, not, ◌&&◌, ◌||◌, true≢false, cond}
use Prim.Native.Nat.{ℕ, suc}
use native.Mathlib.Omega.{arith}
use borrow.Author.Tests.{eqb-false, ne_eqb}
use mathlib.Core.Logic.{◌⊎◌, inl, inr}
use lib.Dec.{eqb}
use Rattle.lists.specs.Loops.{pick}

pub both : (a b : Bool) → (a ≡ true → b ≡ true) → (b ≡ true → a ≡ true) → a ≡ b
both true b f g = sym (f refl)
both false true f g = g refl
both false false f g = refl

pub never : (b : Bool) → (b ≡ true → ⊥) → b ≡ false
never true f = absurd (f refl)
never false f = refl

-- a number that is not 0, given where a test holds
pub cond_none : (b : Bool) (n : ℕ) → cond b (suc n) 0 ≡ 0 → b ≡ false
cond_none true n e = absurd (let z : suc n ≡ 0 = e in omega arith)
cond_none false n e = refl

-- ---- and

pub and_yes : (a b : Bool) → a ≡ true → b ≡ true → (a && b) ≡ true
and_yes a b e f = rw (e, f)

pub and_left : (a b : Bool) → (a && b) ≡ true → a ≡ true
and_left true b e = refl
and_left false b e = e

pub and_right : (a b : Bool) → (a && b) ≡ true → b ≡ true
and_right true b e = e
and_right false true e = refl
and_right false false e = e

pub and_both : (a b : Bool) → (a && b) ≡ true → (a ≡ true) × (b ≡ true)
and_both a b e = (and_left a b e, and_right a b e)

pub and_no : (b : Bool) → (b && false) ≡ false
and_no true = refl
and_no false = refl

pub and_over : (a b c : Bool) → ((not a && b) && c) ≡ (b && (not a && c))
and_over true true c = refl
and_over true false c = refl
and_over false b c = refl

pub and_drop : (a b c : Bool) → (b && c) ≡ false → ((a && b) && c) ≡ false
and_drop true b c e = e
and_drop false b c e = refl

pub and_comm : (a b : Bool) → (a && b) ≡ (b && a)
and_comm true true = refl
and_comm true false = refl
and_comm false true = refl
and_comm false false = refl

-- ---- the test of a search, and of the rest of it

pub none_head : (b r : Bool) → pick b true r ≡ false → b ≡ false
none_head true r e = e
none_head false r e = refl

pub none_tail : (b r : Bool) → pick b true r ≡ false → r ≡ false
none_tail true true e = e
none_tail true false e = refl
none_tail false r e = e

-- ---- one or both

pub or_none : (a b : Bool) → (a || b) ≡ false → (a ≡ false) × (b ≡ false)
or_none false false e = (refl, refl)
or_none false true e = absurd (true≢false e)
or_none true b e = absurd (true≢false e)

pub and_on : (a b : Bool) → a ≡ true → b ≡ (a && b)
and_on a b e = rw e refl

pub and_off : (a b : Bool) → a ≡ false → false ≡ (a && b)
and_off a b e = rw e refl

pub no_and : (a : Bool) {b : Bool} → b ≡ false → (a && b) ≡ false
no_and true e = e
no_and false e = refl

pub and_past : (q u t : Bool) → (q && t) ≡ false → (q && (u && t)) ≡ false
and_past false u t e = refl
and_past true u t e = no_and u e

pub eqb_other : (x y : ℕ) → eqb x y ≡ false → eqb y x ≡ false
eqb_other x y e = ne_eqb y x (λ (q : y ≡ x). eqb-false x y e (sym q))

pub neither : (a b : Bool) → (not a || b) ≡ false → (a ≡ true) × (b ≡ false)
neither true b e = (refl, e)
neither false b e = absurd (true≢false e)

-- ---- by cases

pub cond_same : {A : Type 0} (x : Bool) (n : A) → cond x n n ≡ n
cond_same true n = refl
cond_same false n = refl

pub cases : (b : Bool) → (b ≡ true) ⊎ (b ≡ false)
cases true = inl refl
cases false = inr refl
