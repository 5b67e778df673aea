-- Plain numbers: rows and pieces of one width, either this or that, products, widths, places around.
use mathlib.Core.Path.{◌≡◌, refl, ap, ◌∙◌, sym, subst}
use mathlib.Core.Bool.{Bool, true, false, cond, not, ◌&&◌}
use Prim.Native.Nat.{ℕ, suc, ◌+◌, ◌*◌, ◌/◌, ◌%◌, ◌≤◌, ◌<◌, ◌^◌, ◌-◌}
use native.Mathlib.Nat.{suc-mul, mul-le-mul_right, add-mul-div_right, add-mul-mod_self_right, div-eq_of_lt, mod-eq_of_lt, eq-or-lt_of_le, le_of_suc-le-suc, lt_of_le_of_lt, mul-le-mul_left, le_of_lt, mul-lt-mul_of_pos_right, mul_left_comm, mul_comm, mul-suc, add_comm, div-add-mod', mul_assoc, pow-suc, div-lt_iff_lt-mul}
use native.Mathlib.Numerals.{add-one}
use native.Mathlib.Omega.{arith}
use mathlib.Core.Logic.{◌⊎◌, inl, inr, ⊎_elim}
use borrow.Author.Tests.{eqb-true, eqb-false, ltb-true, ltb-false}
use lib.Dec.{eqb, T, leb, leb→le, nleb→lt, ltb}
use Rattle.std.specs.Int.{from_bool}
use Rattle.lists.proofs.Loops.{back_some}

-- ---- column a of row b, in rows of x

pub cell : (a b x z : ℕ) → a < x → b < z → a + b * x < z * x
cell a b x z h k = let e : suc b * x ≤ z * x = mul-le-mul_right x k in omega (arith, suc-mul b x)

pub column_of : (x a b : ℕ) → a < x → (a + b * x) % x ≡ a
column_of x a b h = add-mul-mod_self_right a b x ∙ mod-eq_of_lt h

pub row_of : (x a b : ℕ) → a < x → (a + b * x) / x ≡ b
row_of x a b h =
    let d : (a + b * x) / x ≡ a / x + b = add-mul-div_right a b {z = x} (omega arith) in
    let e : a / x ≡ 0 = div-eq_of_lt h in
    omega arith

pub next_row : (i m : ℕ) → (i + 1) * m ≡ i * m + m
next_row i m = ap (λ (k : ℕ). k * m) (add-one i) ∙ suc-mul i m

-- ---- piece i of n, each w long, from place k on

pub piece_room : (k n w i len : ℕ) → k + n * w ≤ len → i < n → k + i * w + w ≤ len
piece_room k n w i len h l =
    let p : suc i * w ≤ n * w = mul-le-mul_right w l in
    omega (arith, suc-mul i w)

-- entry i of n, which are k, each w long
pub entry_room : (w n i k len : ℕ) → w * n ≤ len → n ≡ k → i < k → w * i + w ≤ len
entry_room w n i k len h e l =
    let p = piece_room 0 n w i len (omega (arith, mul_comm n w)) (omega arith) in
    omega (arith, mul_comm i w, p)

-- ---- a count that moves from what is left to what is done

pub carry : (b : Bool) (n m : ℕ) → cond b (suc n) n + m ≡ n + cond b (suc m) m
carry true n m = omega arith
carry false n m = refl

-- ---- either or

pub same_or : (a b : ℕ) → (a ≡ b) ⊎ (a ≡ b → ⊥)
same_or a b = go (eqb a b) refl
  where
    go : (t : Bool) → eqb a b ≡ t → (a ≡ b) ⊎ (a ≡ b → ⊥)
    go true e = inl (eqb-true a b e)
    go false e = inr (eqb-false a b e)

pub le_or_lt : (a b : ℕ) → (a ≤ b) ⊎ (b < a)
le_or_lt a b = go (leb a b) (leb→le a b) (nleb→lt a b)
  where
    go : (t : Bool) → (T t → a ≤ b) → (T (not t) → b < a) → (a ≤ b) ⊎ (b < a)
    go true y z = inl (y tt)
    go false y z = inr (z tt)

pub lt_or_le : (a b : ℕ) → (a < b) ⊎ (b ≤ a)
lt_or_le a b = ⊎_elim (λ (h : b ≤ a). inr h) (λ (h : a < b). inl h) (le_or_lt b a)

pub side : (a b : ℕ) → (a ≡ b → ⊥) → (a < b) ⊎ (b < a)
side a b d = go (ltb a b) refl
  where
    go : (t : Bool) → ltb a b ≡ t → (a < b) ⊎ (b < a)
    go true e = inl (ltb-true a b e)
    go false e = let l = ltb-false a b e in ⊎_elim (λ (z : b ≡ a). absurd (d (sym z))) (λ (z : b < a). inr z) (eq-or-lt_of_le l)

pub last_or : (g n : ℕ) → g < n + 1 → (g ≡ n) ⊎ (g < n)
last_or g n h = eq-or-lt_of_le (le_of_suc-le-suc (rw add-one at h))

-- ---- one more or not

pub count_step : (b : Bool) (n : ℕ) → n ≤ cond b (suc n) n
count_step true n = omega arith
count_step false n = omega arith

-- the library's number of a test
pub bool_most : (b : Bool) → from_bool b ≤ 1
bool_most true = omega arith
bool_most false = omega arith

-- a count by it
pub counted : (n : ℕ) {k : ℕ} (b : Bool) → k ≡ from_bool b → n + k ≡ cond b (suc n) n
counted n true e = omega (arith, e)
counted n false e = omega (arith, e)

-- and where two hold
pub counted_both : (n : ℕ) {k : ℕ} (a b : Bool) {w : Bool} → w ≡ (a && b) → k ≡ from_bool w → n + k ≡ cond a (cond b (suc n) n) n
counted_both n true b q e = counted n b (e ∙ ap from_bool q)
counted_both n false b q e = counted n false (e ∙ ap from_bool q)

-- ---- products

pub product_below : (a b : ℕ) {m n : ℕ} → a < m → b < n → a * b < m * n
product_below a b {m} {n} ha hb = lt_of_le_of_lt (mul-le-mul_left a (le_of_lt hb)) (mul-lt-mul_of_pos_right ha (omega arith))

pub product_fits : (a b : ℕ) → a < 2 ^ 32 → b < 2 ^ 32 → a * b < 2 ^ 64
product_fits a b ha hb = product_below a b ha hb

pub rows_room : (n m a b k len : ℕ) → n ≡ a → m ≡ b → k + 3 * (a * b) ≤ len → k + n * (3 * m) ≤ len
rows_room n m a b k len en em h = rw (en, em, mul_left_comm a 3 b) h

pub last_row : (n m : ℕ) → 2 ≤ n → n * m ≡ (n - 1) * m + m
last_row n m h = let e : n ≡ suc (n - 1) = omega arith in ap (λ (k : ℕ). k * m) e ∙ suc-mul (n - 1) m

pub row_least : (i m : ℕ) → 1 ≤ m → i ≤ i * m
row_least i m h = let e : i * 1 ≤ i * m = mul-le-mul_left i h in omega arith

pub rows_least : (n m : ℕ) → 2 ≤ n → m ≤ n * m
rows_least n m h = let e : 1 * m ≤ n * m = mul-le-mul_right m (omega arith) in omega arith

-- two sides of 2 or more are no more, added, than multiplied
pub sum_product : (n m : ℕ) → 2 ≤ n → 2 ≤ m → m + n ≤ n * m
sum_product n m hn hm =
    let a : n * 2 ≤ n * m = mul-le-mul_left n hm in
    let b : m * 2 ≤ m * n = mul-le-mul_left m hn in
    omega (arith, mul_comm n m)

pub multiple_below : (by j n b : ℕ) → j < n → by * n ≤ b + by → by * j ≤ b
multiple_below by j n b h l = let a : by * suc j ≤ by * n = mul-le-mul_left by h in omega (arith, mul-suc by j)

-- column q % w of row q / w
pub div_mod : (q w : ℕ) → q % w + q / w * w ≡ q
div_mod q w = add_comm (q % w) (q / w * w) ∙ div-add-mod' q w

-- n rows of m, of w each
pub rows_of : (n m w : ℕ) → n * (m * w) ≡ w * (n * m)
rows_of n m w = sym (mul_assoc n m w) ∙ mul_comm (n * m) w

pub before_lt : (b k n : ℕ) → 0 < b → n < b ^ suc k → n / b < b ^ k
before_lt b k n p h = (div-lt_iff_lt-mul {k = b} {x = n} {y = b ^ k} p).1 (subst (λ (m : ℕ). n < m) (pow-suc b k) h)

-- b times the share of h in m
pub share_below : {h b : ℕ} (m : ℕ) → h < m → 0 < b → h * b / m < b
share_below {h} {b} m l k =
    let q : h * b < m * b = mul-lt-mul_of_pos_right l k in
    (div-lt_iff_lt-mul {k = m} {x = h * b} {y = b} (omega arith)).1 (omega (arith, q, mul_comm m b))

-- ---- n where it is made, and else 0

pub wide_by : (made : Bool) (n : ℕ) → (◌≡◌ {A = ℕ} (cond made n 0) 0) ⊎ (◌≡◌ {A = ℕ} (cond made n 0) n)
wide_by true n = inr refl
wide_by false n = inl refl

pub wide_most : (made : Bool) (n : ℕ) → cond made n 0 ≤ n
wide_most true n = omega arith
wide_most false n = omega arith

pub wide_few : (made : Bool) (n count len : ℕ) → n * count ≤ len → cond made n 0 * count ≤ len
wide_few true n count len h = h
wide_few false n count len h = omega arith

pub made_few : {v : ℕ} (k count len : ℕ) (b : Bool) → v ≡ cond b k 0 → k * count ≤ len → v * count ≤ len
made_few k count len b e h = subst (λ (v : ℕ). v * count ≤ len) (sym e) (wide_few b k count len h)

-- what is read by a width that is n or 0
pub by_width : {A : Type 0} (read : ℕ → A) (n : ℕ) (q : A) (u : ℕ) → ((u ≡ n) × (q ≡ read n)) ⊎ ((u ≡ 0) × (q ≡ read 0)) → read u ≡ q
by_width read n q u h = ⊎_elim (λ e. ap read e.0 ∙ sym e.1) (λ e. ap read e.0 ∙ sym e.1) h

-- ---- the place before, around n places

pub before_suc : (n j : ℕ) → suc j < n → (suc j + n - 1) % n ≡ j
before_suc n j b = sym (back_some n (suc j) b (λ (z : suc j ≡ 0). omega arith)) ∙ omega arith

pub lt_of_ne : (i n : ℕ) → i < n + 1 → (i ≡ n → ⊥) → i < n
lt_of_ne i n h d = omega arith

pub cell_turned : (xd zd i j : ℕ) → i < xd → j < zd → i + j * xd < xd * zd
cell_turned xd zd i j h k = omega (arith, cell i j xd zd h k, mul_comm zd xd)
