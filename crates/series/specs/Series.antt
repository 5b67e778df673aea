-- FORMAT 16.1, 16.3: the series of sine and cosine in whole numbers, and the rule of the table.
use Rattle.std.specs.Prelude.{cond, List, [], ◌∷◌, ℕ, zero, suc, ◌+◌, ◌-◌, ◌*◌, ◌/◌, ◌%◌, ◌^◌, eqb}

-- n!
abbrev pub fact : ℕ → ℕ
fact zero = 1
fact (suc n) = suc n * fact n

-- the polynomial with these coefficients, from power 0 up, at u
abbrev pub eval : List ℕ → ℕ → ℕ
eval [] u = 0
eval (c ∷ cs) u = c + u * eval cs u

-- FORMAT 16.3: the terms u^i / (d^i * i!) for i = 0 .. n whose power i leaves r when divided by 4, over the denominator n! * d^n:
-- the coefficient of u^i is n! / i! * d^(n - i).
abbrev coefs_from : ℕ → ℕ → ℕ → ℕ → ℕ → List ℕ
coefs_from n d r i zero = []
coefs_from n d r i (suc k) = cond (eqb (i % 4) r) (fact n / fact i * d ^ (n - i)) 0 ∷ coefs_from n d r (suc i) k

abbrev pub coefs : ℕ → ℕ → ℕ → List ℕ
coefs n d r = coefs_from n d r 0 (n + 1)

-- n! * d^n, the denominator
abbrev pub denominator : ℕ → ℕ → ℕ
denominator n d = fact n * d ^ n

-- FORMAT 16.1, 16.3: the sine series through power n at the angle u / d is (sin_plus n d u - sin_minus n d u) / denominator n d,
-- the cosine series (cos_plus n d u - cos_minus n d u) / denominator n d.
abbrev pub sin_plus : ℕ → ℕ → ℕ → ℕ
sin_plus n d u = eval (coefs n d 1) u

abbrev pub sin_minus : ℕ → ℕ → ℕ → ℕ
sin_minus n d u = eval (coefs n d 3) u

abbrev pub cos_plus : ℕ → ℕ → ℕ → ℕ
cos_plus n d u = eval (coefs n d 0) u

abbrev pub cos_minus : ℕ → ℕ → ℕ → ℕ
cos_minus n d u = eval (coefs n d 2) u

-- FORMAT 16.1: p is half_turn / 2^60
abbrev pub half_turn : ℕ
half_turn = 0x3243F6A8885A308D

-- FORMAT 16.1: the whole number nearest a / b, halves upward
abbrev pub nearest : ℕ → ℕ → ℕ
nearest a b = (2 * a + b) / (2 * b)

-- FORMAT 16.1: entry k, nearest 2^30 times the sine series through power 21 at k * p / 2048 = k * half_turn / 2^71
unfoldable pub entry_of : ℕ → ℕ
entry_of k = nearest (2 ^ 30 * (sin_plus 21 (2 ^ 71) (k * half_turn) - sin_minus 21 (2 ^ 71) (k * half_turn))) (denominator 21 (2 ^ 71))
