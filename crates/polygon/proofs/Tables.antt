-- What is kept of earlier searches, read word by word.
use mathlib.Core.Path.{◌≡◌, ◌∙◌}
use mathlib.Core.List.{List}
use Prim.Native.Nat.{ℕ, zero, suc, ◌+◌, ◌-◌, ◌*◌, ◌<◌}
use native.Mathlib.Omega.{arith}
use borrow.Author.Tests.{eq-eqb, ne_eqb}
use lib.ListN.{get_or}
use Rattle.polygon.specs.Memo.{entry, finding}
use Rattle.polygon.specs.declared.memo.Finding.{Finding}
use Rattle.polygon.specs.declared.memo.Finding.TheVariants.{Unknown, Blocked}

-- a word beyond 1
pub finding_far : (s : ℕ) → 1 < s → Blocked (s - 2) ≡ finding s
unfolding finding
finding_far zero h = let z : ⊥ = omega arith in absurd z
finding_far (suc zero) h = let z : ⊥ = omega arith in absurd z
finding_far (suc (suc k)) h = let e : suc (suc k) - 2 ≡ k = omega arith in rw e

-- an entry: of another corner before, of another behind, of these two
module _ (memo : List ℕ) (a b c : ℕ) where
  pub look_other : (x : ℕ) → x ≡ get_or memo (b * 3) 0 → (x ≡ a → ⊥) → Unknown ≡ entry memo a b c
  unfolding entry
  look_other x ex h = rw (← ex, ne_eqb x a h)

  pub look_past : (x y : ℕ) → x ≡ get_or memo (b * 3) 0 → y ≡ get_or memo (b * 3 + 1) 0 → x ≡ a → (y ≡ c → ⊥) → Unknown ≡ entry memo a b c
  unfolding entry
  look_past x y ex ey e h = rw (← ex, eq-eqb x a e, ← ey, ne_eqb y c h)

  pub look_there : (x y z : ℕ) (f : Finding) → x ≡ get_or memo (b * 3) 0 → y ≡ get_or memo (b * 3 + 1) 0 → z ≡ get_or memo (b * 3 + 2) 0 → x ≡ a → y ≡ c → f ≡ finding z
      → f ≡ entry memo a b c
  unfolding entry
  look_there x y z f ex ey ez e g q = q ∙ rw (← ex, eq-eqb x a e, ← ey, eq-eqb y c g, ← ez)
