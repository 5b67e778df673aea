-- The operations on values that are given in units of the format's smallest value: x is s, n units (`Is f x s n`).
use mathlib.Core.Path.{◌≡◌, refl, sym, ap, ap₂, ◌∙◌, subst}
use mathlib.Core.Logic.{◌⊎◌, inl, inr}
use Prim.Native.Nat.{ℕ, zero, suc, ◌+◌, ◌-◌, ◌*◌, ◌%◌, ◌^◌, ◌≤◌, ◌<◌}
use native.Mathlib.Nat.{le_trans, le_of_eq, lt_irrefl, not-le_of_lt, mul-one, one-mul, zero-mul, add-mul, mul_comm, mul_assoc, mul_right_comm, mul-mul-mul_comm, mul-le-mul_right, mul-pos, zero-lt-suc, eq-zero-or-pos}
use native.Mathlib.Omega.{arith}
use mathlib.Core.Bool.{Bool, true, false, ◌&&◌, beq, cond, true≢false}
use lib.IntN.{ℤ, pos, negsuc}
use lib.Dec.{T, leb, ltb, eqb, leb→le, eqb→eq, not_T}
use lib.Pow.{pow-add, pow_pos, pow-lt}
use lib.Ieee.{Float, nan, inf, fin, Format, prec, emax, low, up, down, unlike, round, add, mul, div, fits}
use lib.Ieee.Digits.{back}
use lib.Ieee.Fits.{up_pos, down_pos, and_l, and_r}
use lib.Ieee.Exact.{HasValue}
use lib.Ieee.Scale.{overflow, finite, round_same}
use lib.Ieee.Bits.{cond_no}
use Rattle.lists.proofs.Numbers.{le_or_lt}
use Rattle.math.proofs.Grid.{Rounded, round_rounded}

abbrev pub Is : Format → Float → Bool → ℕ → Type 0
Is f x s n = HasValue x s n (2 ^ low f)

pub is_finite : (f : Format) (x : Float) (s : Bool) (n : ℕ) → Is f x s n → T (finite x)
is_finite f nan s n h = absurd h
is_finite f (inf t) s n h = absurd h
is_finite f (fin t m e) s n h = tt

-- ---- every finite value that the format holds is a whole number of units
zero_units : (u l d : ℕ) → zero * u * l ≡ 0 * d
zero_units u l d = omega arith

whole_units : (m u l : ℕ) → m * u * l ≡ m * u * l * 1
whole_units m u l = omega arith

part_units : (m l k : ℕ) → 2 ^ suc k ≤ 2 ^ l → m * 1 * 2 ^ l ≡ m * 2 ^ (l - suc k) * 2 ^ suc k
part_units m l k h =
    ap (λ (x : ℕ). x * 2 ^ l) (mul-one m) ∙ ap (λ (x : ℕ). m * x) (sym (sym (pow-add 2 (l - suc k) (suc k)) ∙ ap (λ (x : ℕ). 2 ^ x) (back l (suc k) (go (le_or_lt (suc k) l)))))
    ∙ sym (mul_assoc m (2 ^ (l - suc k)) (2 ^ suc k))
  where
    go : (suc k ≤ l) ⊎ (l < suc k) → suc k ≤ l
    go (inl a) = a
    go (inr b) = absurd (not-le_of_lt (pow-lt b) h)

pub down_fits : (f : Format) (s : Bool) (m : ℕ) (e : ℤ) → T (fits f (fin s (suc m) e)) → down e ≤ 2 ^ low f
unfolding fits
down_fits f s m e t =
    leb→le (down e) (2 ^ low f) (and_r (eqb (suc m % 2) 1 && ltb (suc m) (2 ^ prec f)) (leb (down e) (2 ^ low f))
    (and_l (eqb (suc m % 2) 1 && ltb (suc m) (2 ^ prec f) && leb (down e) (2 ^ low f)) (ltb (suc m * up e) (2 ^ suc (emax f) * down e)) t))

pub in_units : (f : Format) (x : Float) → T (fits f x) → T (finite x) → (s : Bool) × (n : ℕ) × Is f x s n
in_units f nan t h = absurd h
in_units f (inf s) t h = absurd h
in_units f (fin s zero e) t h = (s, 0, (refl, zero_units (up e) (2 ^ low f) (down e)))
in_units f (fin s (suc m) (pos k)) t h = (s, suc m * 2 ^ k * 2 ^ low f, (refl, whole_units (suc m) (2 ^ k) (2 ^ low f)))
in_units f (fin s (suc m) (negsuc k)) t h = (s, suc m * 2 ^ (low f - suc k), (refl, part_units (suc m) (low f) k (down_fits f s m (negsuc k) t)))

-- ---- an operation as a rounded fraction of the units
pub mul_round : (f : Format) (x y : Float) (s t : Bool) (a b : ℕ) → Is f x s a → Is f y t b → mul f x y ≡ round f (unlike s t) (a * b) (2 ^ low f * 2 ^ low f)
unfolding mul
mul_round f nan y s t a b h k = absurd h
mul_round f (inf u) y s t a b h k = absurd h
mul_round f (fin u m e) nan s t a b h k = absurd k
mul_round f (fin u m e) (inf v) s t a b h k = absurd k
mul_round f (fin u m e) (fin v n d) s t a b h k =
    let l = 2 ^ low f in
    ap₂ (λ (p q : Bool). round f (unlike p q) (m * up e * (n * up d)) (down e * down d)) h.0 k.0
    ∙ round_same f (unlike s t) (m * up e * (n * up d)) (down e * down d) (a * b) (l * l) (mul-pos (down_pos e) (down_pos d)) (mul-pos (pow_pos (low f)) (pow_pos (low f)))
    (mul-mul-mul_comm (m * up e) (n * up d) l l ∙ ap₂ (λ (p q : ℕ). p * q) h.1 k.1 ∙ mul-mul-mul_comm a (down e) b (down d))

add_cross : (A B de dd l a b : ℕ) → A * l ≡ a * de → B * l ≡ b * dd → (A * dd + B * de) * l ≡ (a + b) * (de * dd)
add_cross A B de dd l a b p q =
    add-mul (A * dd) (B * de) l
    ∙ ap₂ (λ (x y : ℕ). x + y) (mul_right_comm A dd l ∙ ap (λ (x : ℕ). x * dd) p ∙ mul_assoc a de dd)
    (mul_right_comm B de l ∙ ap (λ (x : ℕ). x * de) q ∙ mul_assoc b dd de ∙ ap (λ (x : ℕ). b * x) (mul_comm dd de))
    ∙ sym (add-mul a b (de * dd))

pub add_round : (f : Format) (x y : Float) (a b : ℕ) → Is f x false a → Is f y false b → add f x y ≡ round f false (a + b) (2 ^ low f)
unfolding add
add_round f nan y a b h k = absurd h
add_round f (inf u) y a b h k = absurd h
add_round f (fin true m e) y a b h k = absurd (true≢false h.0)
add_round f (fin false m e) nan a b h k = absurd k
add_round f (fin false m e) (inf v) a b h k = absurd k
add_round f (fin false m e) (fin true n d) a b h k = absurd (true≢false k.0)
add_round f (fin false m e) (fin false n d) a b h k =
    round_same f false (m * up e * down d + n * up d * down e) (down e * down d) (a + b) (2 ^ low f) (mul-pos (down_pos e) (down_pos d)) (pow_pos (low f))
    (add_cross (m * up e) (n * up d) (down e) (down d) (2 ^ low f) a b h.1 k.1)

nonzero : (n u l r d : ℕ) → n * u * l ≡ r * d → 0 < r → 0 < d → n ≡ 0 → ⊥
nonzero n u l r d h R D z = lt_irrefl 0 (subst (λ (x : ℕ). 0 < x) (sym h ∙ ap (λ (x : ℕ). x * u * l) z ∙ ap (λ (x : ℕ). x * l) (zero-mul u) ∙ zero-mul l) (mul-pos R D))

inv_cross : (n u l r d : ℕ) → n * u * l ≡ r * d → 1 * d * r ≡ l * (n * u * 1)
inv_cross n u l r d h = ap (λ (x : ℕ). x * r) (one-mul d) ∙ mul_comm d r ∙ sym h ∙ mul_comm (n * u) l ∙ ap (λ (x : ℕ). l * x) (sym (mul-one (n * u)))

pub inv_round : (f : Format) (x : Float) (r : ℕ) → Is f x false r → 0 < r → div f (fin false 1 (pos 0)) x ≡ round f false (2 ^ low f) r
unfolding div
inv_round f nan r h R = absurd h
inv_round f (inf u) r h R = absurd h
inv_round f (fin true n d) r h R = absurd (true≢false h.0)
inv_round f (fin false n d) r h R =
    let N : n ≡ 0 → ⊥ = nonzero n (up d) (2 ^ low f) r (down d) h.1 R (down_pos d) in
    cond_no (eqb n 0) (inf false) (round f false (1 * down d) (n * up d * 1)) (not_T (eqb n 0) (λ (t : T (eqb n 0)). N (eqb→eq n 0 t)))
    ∙ round_same f false (1 * down d) (n * up d * 1) (2 ^ low f) r (mul-pos (mul-pos (pos_of (eq-zero-or-pos n) N) (up_pos d)) (zero-lt-suc 0)) R (inv_cross n (up d) (2 ^ low f) r (down d) h.1)
  where
    pos_of : (n ≡ 0) ⊎ (0 < n) → (n ≡ 0 → ⊥) → 0 < n
    pos_of (inl z) k = absurd (k z)
    pos_of (inr p) k = p

-- ---- and so as `Rounded`
pub shrink : (f : Format) (s : Bool) (a d l : ℕ) (z : Float) → Rounded f s (a * l) (d * l) z → Rounded f s a d z
shrink f s a d l z R = record {
  p = R.p;
  small = R.small;
  big = R.big;
  upper = λ j h. R.upper j (le_trans (mul-le-mul_right l h) (le_of_eq (mul_assoc (2 ^ j) d l)));
  lower = λ j h. R.lower j (le_trans (le_of_eq (sym (mul_assoc (2 ^ j) d l))) (mul-le-mul_right l h));
}

pub mul_units : (f : Format) (x y : Float) (s t : Bool) (a b : ℕ) → Is f x s a → Is f y t b → Rounded f (unlike s t) (a * b) (2 ^ low f) (mul f x y)
mul_units f x y s t a b h k =
    let l = 2 ^ low f in
    subst (λ (z : Float). Rounded f (unlike s t) (a * b) l z) (sym (mul_round f x y s t a b h k))
    (shrink f (unlike s t) (a * b) l l (round f (unlike s t) (a * b) (l * l)) (round_rounded f (unlike s t) (a * b) (l * l) (mul-pos (pow_pos (low f)) (pow_pos (low f)))))

pub add_units : (f : Format) (x y : Float) (a b : ℕ) → Is f x false a → Is f y false b → Rounded f false (a + b) 1 (add f x y)
add_units f x y a b h k =
    let l = 2 ^ low f in
    subst (λ (z : Float). Rounded f false (a + b) 1 z) (sym (add_round f x y a b h k))
    (shrink f false (a + b) 1 l (round f false (a + b) l)
    (subst (λ (d : ℕ). Rounded f false ((a + b) * l) d (round f false (a + b) l)) (sym (one-mul l)) (round_rounded f false (a + b) l (pow_pos (low f)))))

pub inv_units : (f : Format) (x : Float) (r : ℕ) → Is f x false r → 0 < r → Rounded f false (2 ^ low f * 2 ^ low f) r (div f (fin false 1 (pos 0)) x)
inv_units f x r h R = subst (λ (z : Float). Rounded f false (2 ^ low f * 2 ^ low f) r z) (sym (inv_round f x r h R)) (round_rounded f false (2 ^ low f) r R)

pub square_units : (f : Format) (x : Float) (s : Bool) (a : ℕ) → Is f x s a → Rounded f false (a * a) (2 ^ low f) (mul f x x)
square_units f x s a h = subst (λ (b : Bool). Rounded f b (a * a) (2 ^ low f) (mul f x x)) (alike s) (mul_units f x x s s a a h h)
  where
    alike : (b : Bool) → unlike b b ≡ false
    alike true = refl
    alike false = refl

-- ---- what is finite has finite parts
pub rounded_under : (f : Format) (s : Bool) (num den : ℕ) (z : Float) (R : Rounded f s num den z) → T (finite z) → R.p < overflow f
rounded_under f s num den z R t = go (le_or_lt (overflow f) R.p)
  where
    go : (overflow f ≤ R.p) ⊎ (R.p < overflow f) → R.p < overflow f
    go (inl h) = absurd (subst (λ (y : Float). T (finite y)) (R.big h) t)
    go (inr h) = h

no_nan : (b : Bool) (x : Float) → T (finite (cond b nan x)) → T (finite x)
no_nan true x t = absurd t
no_nan false x t = t

no_inf : (b : Bool) (s : Bool) → T (finite (cond b (inf s) nan)) → ⊥
no_inf true s t = t
no_inf false s t = t

pub add_finite : (f : Format) (x y : Float) → T (finite (add f x y)) → T (finite x) × T (finite y)
unfolding add
add_finite f nan y t = absurd t
add_finite f (inf s) nan t = absurd t
add_finite f (inf s) (inf u) t = absurd (no_inf (beq s u) s t)
add_finite f (inf s) (fin u n d) t = absurd t
add_finite f (fin s m e) nan t = absurd t
add_finite f (fin s m e) (inf u) t = absurd t
add_finite f (fin s m e) (fin u n d) t = (tt, tt)

pub mul_finite : (f : Format) (x y : Float) → T (finite (mul f x y)) → T (finite x) × T (finite y)
unfolding mul
mul_finite f nan y t = absurd t
mul_finite f (inf s) nan t = absurd t
mul_finite f (inf s) (inf u) t = absurd t
mul_finite f (inf s) (fin u n d) t = absurd (no_nan (eqb n 0) (inf (unlike s u)) t)
mul_finite f (fin s m e) nan t = absurd t
mul_finite f (fin s m e) (inf u) t = absurd (no_nan (eqb m 0) (inf (unlike s u)) t)
mul_finite f (fin s m e) (fin u n d) t = (tt, tt)
