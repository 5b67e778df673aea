-- The numbers behind the length of a vector: bounds by powers of two, in units of 2 ^ -149. Nothing here is about floats.
use mathlib.Core.Path.{◌≡◌, sym, ap, ◌∙◌}
use mathlib.Core.Logic.{◌⊎◌, inl, inr}
use Prim.Native.Nat.{ℕ, suc, ◌+◌, ◌-◌, ◌*◌, ◌^◌, ◌≤◌, ◌<◌, zero-le}
use native.Mathlib.Nat.{le_trans, le_of_eq, le_of_lt, not-le_of_lt, mul-one, zero-mul, mul-le-mul_left, mul-le-mul_right, eq-zero-or-pos}
use native.Mathlib.Omega.{arith}
use lib.Pow.{pow-add, pow_mono, pow-lt}
use Rattle.lists.proofs.Numbers.{le_or_lt}
use Rattle.lists.proofs.Squares.{times_up, times_lo, plus_up, clash, binade}

-- p is near num / den: on the same side of each power of two
abbrev pub Up : ℕ → ℕ → ℕ → Type 0
Up num den p = (j : ℕ) → num ≤ 2 ^ j * den → p ≤ 2 ^ j

abbrev pub Lo : ℕ → ℕ → ℕ → Type 0
Lo num den p = (j : ℕ) → 2 ^ j * den ≤ num → 2 ^ j ≤ p

-- r is near √(D * 2 ^ 149)
abbrev pub RootUp : ℕ → ℕ → Type 0
RootUp D r = (j : ℕ) → D * 2 ^ 149 ≤ 2 ^ j * 2 ^ j → r ≤ 2 ^ j

abbrev pub RootLo : ℕ → ℕ → Type 0
RootLo D r = (j : ℕ) → 2 ^ j * 2 ^ j ≤ D * 2 ^ 149 → 2 ^ j ≤ r

-- ---- the same by exponents
pub up_at : (n p i j : ℕ) → Up n (2 ^ 149) p → n ≤ 2 ^ i → i ≤ j + 149 → p ≤ 2 ^ j
up_at n p i j U h l = U j (le_trans h (le_trans (pow_mono l) (le_of_eq (pow-add 2 j 149))))

pub lo_at : (n p i j : ℕ) → Lo n (2 ^ 149) p → 2 ^ i ≤ n → j + 149 ≤ i → 2 ^ j ≤ p
lo_at n p i j L h l = L j (le_trans (le_of_eq (sym (pow-add 2 j 149))) (le_trans (pow_mono l) h))

pub sum_up : (n p j : ℕ) → Up n 1 p → n ≤ 2 ^ j → p ≤ 2 ^ j
sum_up n p j U h = U j (le_trans h (le_of_eq (sym (mul-one (2 ^ j)))))

pub sum_lo : (n p j : ℕ) → Lo n 1 p → 2 ^ j ≤ n → 2 ^ j ≤ p
sum_lo n p j L h = L j (le_trans (le_of_eq (mul-one (2 ^ j))) h)

pub root_up : (D r i j : ℕ) → RootUp D r → D ≤ 2 ^ i → i + 149 ≤ j + j → r ≤ 2 ^ j
root_up D r i j U h l = U j (le_trans (mul-le-mul_right (2 ^ 149) h) (le_trans (le_of_eq (sym (pow-add 2 i 149))) (le_trans (pow_mono l) (le_of_eq (pow-add 2 j j)))))

pub root_lo : (D r i j : ℕ) → RootLo D r → 2 ^ i ≤ D → j + j ≤ i + 149 → 2 ^ j ≤ r
root_lo D r i j L h l = L j (le_trans (le_of_eq (sym (pow-add 2 j j))) (le_trans (pow_mono l) (le_trans (le_of_eq (pow-add 2 i 149)) (mul-le-mul_right (2 ^ 149) h))))

-- 1 / r
pub inv_up : (r q i j : ℕ) → Up (2 ^ 149 * 2 ^ 149) r q → 2 ^ i ≤ r → 149 + 149 ≤ j + i → q ≤ 2 ^ j
inv_up r q i j U h l = U j (le_trans (le_of_eq (sym (pow-add 2 149 149))) (le_trans (pow_mono l) (le_trans (le_of_eq (pow-add 2 j i)) (mul-le-mul_left (2 ^ j) h))))

pub inv_lo : (r q i j : ℕ) → Lo (2 ^ 149 * 2 ^ 149) r q → r ≤ 2 ^ i → j + i ≤ 149 + 149 → 2 ^ j ≤ q
inv_lo r q i j L h l = L j (le_trans (mul-le-mul_left (2 ^ j) h) (le_trans (le_of_eq (sym (pow-add 2 j i))) (le_trans (pow_mono l) (le_of_eq (pow-add 2 149 149)))))

-- ---- the binade of a number above zero
-- ---- a component whose square is finite
far : (i : ℕ) → 277 ≤ i → 405 + 149 ≤ i + i
far i h = omega arith

pub bounded : (a p i : ℕ) → Lo (a * a) (2 ^ 149) p → p < 2 ^ 277 → 2 ^ i ≤ a → i < 277
bounded a p i L F h = go (le_or_lt 277 i)
  where
    go : (277 ≤ i) ⊎ (i < 277) → i < 277
    go (inr l) = l
    go (inl l) = absurd (not-le_of_lt (pow-lt {i = 277} {j = 405} (omega arith)) (le_trans (lo_at (a * a) p (i + i) 405 L (times_lo a a i i h h) (far i l)) (le_of_lt F)))

-- ---- no component of the unit vector passes 2: x times 1 / r
cover : (i : ℕ) → 149 ≤ i + i → i + i - 149 + 149 ≤ i + i
cover i h = omega arith

cover' : (i : ℕ) → i + i ≤ i + i - 149 + 149
cover' i = omega arith

fill : (i : ℕ) → 149 + 149 ≤ 298 - i + i
fill i = omega arith

two_at_most : (i : ℕ) → i < 277 → suc i + (298 - i) ≤ 150 + 149
two_at_most i h = omega arith

little : (i : ℕ) → i + i < 149 → suc i + 216 ≤ 150 + 149
little i h = omega arith

pub component_up : (a p D r q u : ℕ) → Lo (a * a) (2 ^ 149) p → p < 2 ^ 277 → ((j : ℕ) → 2 ^ j ≤ p → 2 ^ j ≤ D) → RootLo D r → 2 ^ 82 ≤ r → Up (2 ^ 149 * 2 ^ 149) r q → Up (a * q) (2 ^ 149) u → u ≤ 2 ^ 150
component_up a p D r q u L F M RL R Q U = go (eq-zero-or-pos a)
  where
    normal : (i : ℕ) → 2 ^ i ≤ a → a < 2 ^ suc i → (149 ≤ i + i) ⊎ (i + i < 149) → u ≤ 2 ^ 150
    normal i lo hi (inl h) =
        let j = i + i - 149 in
        let pl : 2 ^ j ≤ p = lo_at (a * a) p (i + i) j L (times_lo a a i i lo lo) (cover i h) in
        let rl : 2 ^ i ≤ r = root_lo D r j i RL (M j pl) (cover' i) in
        let qu : q ≤ 2 ^ (298 - i) = inv_up r q i (298 - i) Q rl (fill i) in
        up_at (a * q) u (suc i + (298 - i)) 150 U (times_up a q (suc i) (298 - i) (le_of_lt hi) qu) (two_at_most i (bounded a p i L F lo))
    normal i lo hi (inr h) =
        up_at (a * q) u (suc i + 216) 150 U (times_up a q (suc i) 216 (le_of_lt hi) (inv_up r q 82 216 Q R (omega arith))) (little i h)

    go : (a ≡ 0) ⊎ (0 < a) → u ≤ 2 ^ 150
    go (inl z) = up_at (a * q) u 0 150 U (le_trans (le_of_eq (ap (λ (x : ℕ). x * q) z ∙ zero-mul q)) zero-le) (omega arith)
    go (inr A) = let b = binade a A in normal b.0 b.1 b.2 (le_or_lt 149 (b.0 + b.0))

-- ---- the length from above, by a bound of all components
pub length_up : (x y z px py pz e D r k j h : ℕ) → x ≤ 2 ^ k → y ≤ 2 ^ k → z ≤ 2 ^ k
    → Up (x * x) (2 ^ 149) px → Up (y * y) (2 ^ 149) py → Up (z * z) (2 ^ 149) pz → Up (px + py) 1 e → Up (e + pz) 1 D → RootUp D r
    → k + k ≤ j + 149 → suc (suc j) + 149 ≤ h + h → r ≤ 2 ^ h
length_up x y z px py pz e D r k j h X Y Z PX PY PZ E DD R l m =
    let a : px ≤ 2 ^ j = up_at (x * x) px (k + k) j PX (times_up x x k k X X) l in
    let b : py ≤ 2 ^ j = up_at (y * y) py (k + k) j PY (times_up y y k k Y Y) l in
    let c : pz ≤ 2 ^ j = up_at (z * z) pz (k + k) j PZ (times_up z z k k Z Z) l in
    let d : e ≤ 2 ^ suc j = sum_up (px + py) e (suc j) E (plus_up px py j a b) in
    let g : D ≤ 2 ^ suc (suc j) = sum_up (e + pz) D (suc (suc j)) DD (plus_up e pz (suc j) d (le_trans c (pow_mono (omega arith)))) in
    root_up D r (suc (suc j)) h R g m

-- ---- the largest component of the unit vector is a quarter at least
up_a : (i : ℕ) → suc i + suc i ≤ suc i + suc i - 149 + 149
up_a i = omega arith

up_b : (i : ℕ) → 149 ≤ suc i + suc i → suc (suc (suc i + suc i - 149)) + 149 ≤ i + 2 + (i + 2)
up_b i h = omega arith

up_c : (i : ℕ) → i < 277 → 296 - i + (i + 2) ≤ 149 + 149
up_c i h = omega arith

up_d : (i : ℕ) → i < 277 → 147 + 149 ≤ i + (296 - i)
up_d i h = omega arith

pub component_lo : (x y z px py pz e D r q m pm u : ℕ) → x ≤ m → y ≤ m → z ≤ m
    → Up (x * x) (2 ^ 149) px → Up (y * y) (2 ^ 149) py → Up (z * z) (2 ^ 149) pz → Up (px + py) 1 e → Up (e + pz) 1 D → RootUp D r
    → 2 ^ 82 ≤ r → Lo (m * m) (2 ^ 149) pm → pm < 2 ^ 277 → Lo (2 ^ 149 * 2 ^ 149) r q → Lo (m * q) (2 ^ 149) u → 2 ^ 147 ≤ u
component_lo x y z px py pz e D r q m pm u X Y Z PX PY PZ E DD R r82 L F Q U = go (eq-zero-or-pos m)
  where
    bound : (k j h : ℕ) → m ≤ 2 ^ k → k + k ≤ j + 149 → suc (suc j) + 149 ≤ h + h → r ≤ 2 ^ h
    bound k j h M a b = length_up x y z px py pz e D r k j h (le_trans X M) (le_trans Y M) (le_trans Z M) PX PY PZ E DD R a b

    tiny : (k : ℕ) → m ≤ 2 ^ k → k + k ≤ 0 + 149 → 2 ^ 147 ≤ u
    tiny k M a = absurd (clash 76 82 r (bound k 0 76 M a (omega arith)) r82 (omega arith))

    normal : (i : ℕ) → 2 ^ i ≤ m → m < 2 ^ suc i → (149 ≤ suc i + suc i) ⊎ (suc i + suc i < 149) → 2 ^ 147 ≤ u
    normal i lo hi (inl h) =
        let f : i < 277 = bounded m pm i L F lo in
        let ru : r ≤ 2 ^ (i + 2) = bound (suc i) (suc i + suc i - 149) (i + 2) (le_of_lt hi) (up_a i) (up_b i h) in
        let ql : 2 ^ (296 - i) ≤ q = inv_lo r q (i + 2) (296 - i) Q ru (up_c i f) in
        lo_at (m * q) u (i + (296 - i)) 147 U (times_lo m q i (296 - i) lo ql) (up_d i f)
    normal i lo hi (inr h) = tiny (suc i) (le_of_lt hi) (omega arith)

    go : (m ≡ 0) ⊎ (0 < m) → 2 ^ 147 ≤ u
    go (inl z) = tiny 0 (le_trans (le_of_eq z) zero-le) (omega arith)
    go (inr A) = let b = binade m A in normal b.0 b.1 b.2 (le_or_lt 149 (suc b.0 + suc b.0))

-- ---- which of three is the largest
