-- Sixteen corners at once: what is worked out of them, lane by lane.
use Prim.Native.Nat.{ℕ, zero, suc, ◌+◌, ◌-◌, ◌*◌, ◌%◌, ◌^◌, ◌≤◌, ◌<◌}
use native.Mathlib.Omega.{arith}
use mathlib.Core.Path.{◌≡◌, refl, sym, ap, ◌∙◌}
use mathlib.Core.Bool.{Bool, true, false, not, ◌&&◌, cond}
use mathlib.Core.Logic.{⊎_elim}
use mathlib.Core.List.{List, [], ◌∷◌, ◌++◌, map}
use lib.ListN.{length, get_or, replicate, take, drop}
use lib.Dec.{eqb}
use borrow.Author.Tests.{eqb-true}
use Rattle.std.proofs.lemmas.Bool.{not-true, not-false}
use lib.Ieee.{Float, nan, binary32, le, sub, mul}
use lib.Lanes.{zip2, mask_l, top}
use Rattle.std.specs.Int.Bits.{bit_and}
use Rattle.std.proofs.lemmas.Grind.{elements}
use Rattle.std.specs.List.{prefix_len}
use Rattle.std.proofs.lemmas.List.{length-map, length-drop, take_all, get_or-take, get_or-drop, get_or-replicate}
use Rattle.std.proofs.lemmas.List.Sums.{prefix_len-le-length, prefix_len_passes, prefix_len_stops}
use Rattle.std.proofs.lemmas.Simd.{mask_l-mod, length-zip2, get_or-zip2, leading_from_mask_l, trailing_mask_l}
use lib.Count.{count_trailing_zeros}
use Rattle.lists.specs.Loops.{first}
use Rattle.lists.proofs.Loops.{first_stop, first_end}
use Rattle.lists.proofs.Numbers.{le_or_lt}
use Rattle.lists.proofs.Searches.{past_to, first_below}
use Rattle.polygon.specs.Ears.{+0, cross2}
use Rattle.polygon.specs.Memo.{xy}

-- ---- where they lie

abbrev evens : ℕ → ℕ → List ℕ
evens zero a = []
evens (suc n) a = a ∷ evens n (a + 2)

even_at : (f : ℕ → Float) (n a k : ℕ) → k < n → get_or (map f (evens n a)) k nan ≡ f (k * 2 + a)
even_at f zero a k l = absurd (omega arith)
even_at f (suc n) a zero l = ap f (omega arith)
even_at f (suc n) a (suc k) l = even_at f n (a + 2) k (omega arith) ∙ ap f (omega arith)

-- two loads are the front of the list
loads_at : (n : ℕ) (p : List Float) (i : ℕ) → n + n ≤ length p → i < n + n → get_or (take n p ++ take n (drop n p)) i nan ≡ get_or p i nan
loads_at n p i e l = grind (arith, elements)

pub dots_at : (p : List Float) (k : ℕ) → 32 ≤ length p → k < 16
    → (get_or (map (λ i. get_or (take 16 p ++ take 16 (drop 16 p)) i nan) (evens 16 0)) k nan, get_or (map (λ i. get_or (take 16 p ++ take 16 (drop 16 p)) i nan) (evens 16 1)) k nan) ≡ xy p k
dots_at p k e l =
    let both = λ (i : ℕ). get_or (take 16 p ++ take 16 (drop 16 p)) i nan in
    let same : k * 2 + 0 ≡ k * 2 = omega arith in
    let low : k * 2 + 0 < 32 = omega arith in
    let high : k * 2 + 1 < 32 = omega arith in
    let x = even_at both 16 0 k l ∙ loads_at 16 p (k * 2 + 0) e low ∙ ap (λ i. get_or p i nan) same in
    let y = even_at both 16 1 k l ∙ loads_at 16 p (k * 2 + 1) e high in
    λ i. (x i, y i)

-- those from a later corner on
pub xy_from : (p : List Float) (from k : ℕ) → xy (take (length p - from * 2) (drop (from * 2) p)) k ≡ xy p (from + k)
xy_from p from k =
    let rest = take_all (length p - from * 2) (drop (from * 2) p) (omega (arith, length-drop (from * 2) p)) in
    let x : from * 2 + k * 2 ≡ (from + k) * 2 = omega arith in
    let y : from * 2 + (k * 2 + 1) ≡ (from + k) * 2 + 1 = omega arith in
    let ex = get_or-drop (from * 2) p (k * 2) nan ∙ ap (λ i. get_or p i nan) x in
    let ey = get_or-drop (from * 2) p (k * 2 + 1) nan ∙ ap (λ i. get_or p i nan) y in
    ap (λ l. xy l k) rest ∙ (λ i. (ex i, ey i))

-- the flags of n corners, from a later one on
pub flag_from : (left : List ℕ) (n from k : ℕ) → from + n ≤ length left → k < n → get_or (take n (take (length left - from) (drop from left))) k 0 ≡ get_or left (from + k) 0
flag_from left n from k e l =
    get_or-take n (take (length left - from) (drop from left)) k 0 l ∙ get_or-take (length left - from) (drop from left) k 0 (omega arith) ∙ get_or-drop from left k 0

-- ---- the side of a line that each lies on

pub cross_at : (ox oy ax ay : Float) (n : ℕ) (x y : List Float) → length x ≡ n → length y ≡ n → (k : ℕ) → k < n
    → get_or
    (zip2 (sub binary32) (zip2 (mul binary32) (replicate n (sub binary32 ax ox)) (zip2 (sub binary32) y (replicate n oy)))
    (zip2 (mul binary32) (replicate n (sub binary32 ay oy)) (zip2 (sub binary32) x (replicate n ox))))
    k nan
    ≡ cross2 (ox, oy) (ax, ay) (get_or x k nan, get_or y k nan)
unfolding cross2
cross_at ox oy ax ay zero x y ex ey k l = absurd (omega arith)
cross_at ox oy ax ay (suc n) [] y ex ey k l = absurd (omega arith)
cross_at ox oy ax ay (suc n) (x ∷ xs) [] ex ey k l = absurd (omega arith)
cross_at ox oy ax ay (suc n) (x ∷ xs) (y ∷ ys) ex ey zero l = refl
cross_at ox oy ax ay (suc n) (x ∷ xs) (y ∷ ys) ex ey (suc k) l = cross_at ox oy ax ay n xs ys (omega arith) (omega arith) k (omega arith)

-- ---- the tests that each passes

-- what a test gives in a lane: all ones, or 0
abbrev lane : Bool → ℕ
lane b = cond b 4294967295 0

lane_top : (b : Bool) → top 31 (lane b) ≡ b
lane_top true = refl
lane_top false = refl

lane_and : (a b : Bool) → bit_and (lane a) (lane b) ≡ lane (a && b)
lane_and true true = refl
lane_and true false = refl
lane_and false true = refl
lane_and false false = refl

-- sixteen lanes hold what the test b gives
pub record Tested (m : List ℕ) (b : ℕ → Bool) : Type 0 where
  size : length m ≡ 16
  at : (k : ℕ) → k < 16 → get_or m k 0 ≡ lane (b k)

pub tested_flag : (fs : List ℕ) → length fs ≡ 16 → Tested (zip2 (λ a b. lane (eqb a b)) fs (replicate 16 1)) (λ k. eqb (get_or fs k 0) 1)
tested_flag fs e =
    let f = λ (a b : ℕ). lane (eqb a b) in
    record {
      size = length-zip2 f fs (replicate 16 1) e ∙ e;
      at = λ k l. get_or-zip2 f fs (replicate 16 1) k 0 0 0 (omega arith) l ∙ ap (f (get_or fs k 0)) (get_or-replicate 16 k 1 0 l);
    }

pub tested_side : (us : List Float) → length us ≡ 16 → Tested (zip2 (λ a b. lane (le a b)) (replicate 16 +0) us) (λ k. le +0 (get_or us k nan))
tested_side us e =
    let f = λ (a b : Float). lane (le a b) in
    record {
      size = length-zip2 f (replicate 16 +0) us (sym e);
      at = λ k l. get_or-zip2 f (replicate 16 +0) us k +0 nan 0 l (omega arith) ∙ ap (λ (z : Float). f z (get_or us k nan)) (get_or-replicate 16 k +0 +0 l);
    }

pub tested_both : (m n : List ℕ) (b c : ℕ → Bool) → Tested m b → Tested n c → Tested (zip2 bit_and m n) (λ k. b k && c k)
tested_both m n b c s t =
    record {
      size = length-zip2 bit_and m n (s.size ∙ sym t.size) ∙ s.size;
      at = λ k l. get_or-zip2 bit_and m n k 0 0 0 (omega (arith, s.size)) (omega (arith, t.size)) ∙ (λ i. bit_and (s.at k l i) (t.at k l i)) ∙ lane_and (b k) (c k);
    }

pub tested_inside : (fs : List ℕ) (us vs ws : List Float) → length fs ≡ 16 → length us ≡ 16 → length vs ≡ 16 → length ws ≡ 16
    → Tested
    (zip2 bit_and (zip2 (λ a b. lane (eqb a b)) fs (replicate 16 1))
    (zip2 bit_and (zip2 (λ a b. lane (le a b)) (replicate 16 +0) us)
    (zip2 bit_and (zip2 (λ a b. lane (le a b)) (replicate 16 +0) vs) (zip2 (λ a b. lane (le a b)) (replicate 16 +0) ws))))
    (λ k. eqb (get_or fs k 0) 1 && (le +0 (get_or us k nan) && (le +0 (get_or vs k nan) && le +0 (get_or ws k nan))))
tested_inside fs us vs ws ef eu ev ew = tested_both _ _ _ _ (tested_flag fs ef) (tested_both _ _ _ _ (tested_side us eu) (tested_both _ _ _ _ (tested_side vs ev) (tested_side ws ew)))

-- ---- the first that passes

module _ (m : List ℕ) (b : ℕ → Bool) (t : Tested m b) where
  abbrev bits : ℕ
  bits = mask_l (map (top 31) m)

  bits_are : bits % 2 ^ 64 ≡ bits
  bits_are = mask_l-mod (map (top 31) m) 64 (omega (arith, length-map m (top 31), t.size))

  pass : (k : ℕ) (v : Bool) → k < 16 → top 31 (get_or m k 0) ≡ v → b k ≡ v
  pass k v l e = sym (ap (top 31) (t.at k l) ∙ lane_top (b k)) ∙ e

  module _ (r : ℕ) (counted : r ≡ prefix_len (λ x. not (top 31 x)) m) where
    within : r ≤ 16
    within = omega (arith, counted, t.size, prefix_len-le-length (λ x. not (top 31 x)) m)

    none_before : (k : ℕ) → 0 ≤ k → k < r → b k ≡ false
    none_before k h l = pass k false (omega (arith, within)) (not-true _ (prefix_len_passes (λ x. not (top 31 x)) m k 0 (omega (arith, counted))))

    first_counted : r ≡ first b 16 0
    first_counted =
        sym (past_to b 16 0 r (omega arith) within none_before
        ∙ ⊎_elim
        (λ (l : 16 ≤ r). first_end b 16 r l)
        (λ (l : r < 16). first_stop b 16 r l (pass r true l (ap (λ k. top 31 (get_or m k 0)) counted ∙ not-false _ (prefix_len_stops (λ x. not (top 31 x)) m 0 (omega (arith, counted, t.size))))))
        (le_or_lt 16 r))

  pub first_none : bits % 2 ^ 64 ≡ 0 → 16 ≡ first b 16 0
  first_none e = first_counted 16 (sym (leading_from_mask_l (top 31) m (sym bits_are ∙ e) ∙ t.size))

  pub first_some : (bits % 2 ^ 64 ≡ 0 → ⊥) → count_trailing_zeros 64 (bits % 2 ^ 64) ≡ first b 16 0
  first_some some =
      ap (count_trailing_zeros 64) bits_are ∙ first_counted _ (trailing_mask_l (top 31) 64 m (omega (arith, t.size)) (omega (arith, bits_are, some)))

  pub none_passes : not (eqb (bits % 2 ^ 64) 0) ≡ false → (k : ℕ) → k < 16 → b k ≡ false
  none_passes e k l = first_below b 16 0 k (omega arith) (omega (arith, first_none (eqb-true _ 0 (not-false (eqb _ 0) e))))
