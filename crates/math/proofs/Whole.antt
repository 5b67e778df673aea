-- The whole part of a square root: `isqrt` is the number whose square is not above n and whose successor's is, and there is one such number.
use mathlib.Core.Path.{◌≡◌}
use mathlib.Core.Bool.{Bool, true, false, not, cond}
use Prim.Native.Nat.{ℕ, zero, suc, ◌+◌, ◌*◌, ◌/◌, ◌^◌, ◌≤◌, ◌<◌, zero-le}
use native.Mathlib.Nat.{le_antisymm, pow-suc}
use native.Mathlib.Omega.{arith}
use lib.Dec.{T, leb, leb→le, nleb→lt}
use Rattle.lists.proofs.Squares.{square_next, square_double, root_le}
use Rattle.math.specs.SquareRoot.{up_to, isqrt}

-- r is the whole part of the root of n
pub record IsRoot (n r : ℕ) : Type 0 where
  pub low : r * r ≤ n
  pub high : n < (r + 1) * (r + 1)

up_to_root : (n r : ℕ) → r * r ≤ n → n < (r + 1 + 1) * (r + 1 + 1) → IsRoot n (up_to n r)
up_to_root n r l h = go (leb ((r + 1) * (r + 1)) n) (leb→le ((r + 1) * (r + 1)) n) (nleb→lt ((r + 1) * (r + 1)) n)
  where
    go : (b : Bool) → (T b → (r + 1) * (r + 1) ≤ n) → (T (not b) → n < (r + 1) * (r + 1)) → IsRoot n (cond b (r + 1) r)
    go true y z = record { low = y tt; high = h }
    go false y z = record { low = l; high = z tt }

pub isqrt_root : (k n : ℕ) → n < 4 ^ k → IsRoot n (isqrt k n)
unfolding isqrt
isqrt_root zero n h = record { low = zero-le; high = h }
isqrt_root (suc k) n h =
    let q = isqrt k (n / 4) in
    let i = isqrt_root k (n / 4) (omega (arith, pow-suc 4 k)) in
    up_to_root n (2 * q)
    (omega (arith, square_double q, i.low))
    (omega (arith, square_next (2 * q + 1), square_next (2 * q), square_double q, square_next q, i.high))

pub root_unique : (n r s : ℕ) → IsRoot n r → IsRoot n s → r ≡ s
root_unique n r s i j = le_antisymm (root_le n r s i.low j.high) (root_le n s r j.low i.high)

-- the number whose square is not above n and whose successor's is
pub whole_root : (n r : ℕ) → n < 2 ^ 50 → r * r ≤ n → n < (r + 1) * (r + 1) → r ≡ isqrt 25 n
whole_root n r s l h = root_unique n r (isqrt 25 n) (record { low = l; high = h }) (isqrt_root 25 n s)
