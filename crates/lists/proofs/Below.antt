-- Numbers that are all below one.
use mathlib.Core.Path.{◌≡◌, refl, ap, sym, ◌∙◌, subst}
use mathlib.Core.Bool.{Bool, true, false, not, ◌&&◌, ◌||◌}
use mathlib.Core.List.{List, [], ◌∷◌}
use Prim.Native.Nat.{ℕ, zero, suc, ◌+◌, ◌≤◌, ◌<◌}
use native.Mathlib.Nat.{not-suc-le-zero, le_of_suc-le-suc}
use native.Mathlib.Omega.{arith}
use lib.Dec.{T, ltb, ltb→lt}
use lib.Ieee.Fits.{and_l, and_r}
use lib.ListN.{length, get_or, get_or-eq_default}
use borrow.Author.Tests.{lt-ltb, le-ltb, ltb-true, ltb-false}
use Rattle.std.specs.List.{list_any, list_all, range_with_len}
use Rattle.lists.specs.Loops.{All}
use Rattle.lists.specs.Lists.{all_below}
use Rattle.lists.proofs.Tests.{and_left, and_right}

-- as its entries are read by their numbers
pub below_from : (p : ℕ) (ws : List ℕ) (test : ℕ → Bool) (s : ℕ) → ((k : ℕ) → k < length ws → test (s + k) ≡ ltb (get_or ws k 0) p) → list_all test (range_with_len s (length ws)) ≡ all_below p ws
unfolding all_below
below_from p [] test s h = refl
below_from p (w ∷ ws) test s h =
    let d : s ≡ s + 0 = omega arith in
    let a : test s ≡ ltb w p = ap test d ∙ h 0 (omega arith) in
    let b = below_from p ws test (s + 1) (λ k l. let e : s + 1 + k ≡ s + suc k = omega arith in ap test e ∙ h (suc k) (omega arith)) in
    λ i. a i && b i

-- and one after another
pub below_each : (p : ℕ) (ws : List ℕ) → list_all (λ w. ltb w p) ws ≡ all_below p ws
unfolding all_below
below_each p [] = refl
below_each p (w ∷ ws) = ap (λ b. ltb w p && b) (below_each p ws)

-- whether some entry is above a limit
pub any_above : (n : ℕ) (ws : List ℕ) → list_any (ltb n) ws ≡ not (all_below (suc n) ws)
unfolding all_below
any_above n [] = refl
any_above n (w ∷ ws) = go (ltb n w) refl (any_above n ws)
  where
    go : (b : Bool) → ltb n w ≡ b → list_any (ltb n) ws ≡ not (all_below (suc n) ws) → b || list_any (ltb n) ws ≡ not (ltb w (suc n) && all_below (suc n) ws)
    go true e h = rw (le-ltb w (suc n) (omega (arith, ltb-true n w e))) refl
    go false e h = rw (lt-ltb w (suc n) (omega (arith, ltb-false n w e))) h

pub below_at : (p : ℕ) (ws : List ℕ) → T (all_below p ws) → (k : ℕ) → k < length ws → get_or ws k 0 < p
unfolding all_below
below_at p [] t k h = absurd (not-suc-le-zero h)
below_at p (w ∷ ws) t zero h = ltb→lt w p (and_l (ltb w p) _ t)
below_at p (w ∷ ws) t (suc k) h = below_at p ws (and_r (ltb w p) _ t) k (le_of_suc-le-suc h)

-- what is read past the end is 0
pub counts_within : (limit : ℕ) (ns : List ℕ) → all_below (suc limit) ns ≡ true → (k : ℕ) → get_or ns k 0 ≤ limit
counts_within limit ns e k = go (ltb k (length ns)) refl
  where
    go : (t : Bool) → ltb k (length ns) ≡ t → get_or ns k 0 ≤ limit
    go true q = omega (arith, below_at (suc limit) ns (subst T (sym e) tt) k (ltb-true k _ q))
    go false q = omega (arith, get_or-eq_default ns 0 {n = k} (ltb-false k _ q))

-- as a fact of each
pub all_below_lem : (p : ℕ) (ws : List ℕ) → all_below p ws ≡ true → All (λ (w : ℕ). w < p) ws
unfolding all_below
all_below_lem p [] e = tt
all_below_lem p (w ∷ ws) e = (ltb-true w p (and_left (ltb w p) (all_below p ws) e), all_below_lem p ws (and_right (ltb w p) (all_below p ws) e))
