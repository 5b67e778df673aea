-- Laws of the search from the last number downwards.
use mathlib.Core.Path.{◌≡◌, refl, sym, ap, ◌∙◌}
use mathlib.Core.Logic.{⊎_elim}
use mathlib.Core.Bool.{Bool, true, false, cond}
use Prim.Native.Nat.{ℕ, zero, suc, ◌≤◌, ◌<◌}
use native.Mathlib.Nat.{not-suc-le-zero, le_of_suc-le-suc, eq-or-lt_of_le}
use native.Mathlib.Omega.{arith}
use Rattle.std.specs.Prelude.{Option, Some, None}
use Rattle.block.specs.declared.number.VertexNumber.{VertexNumber}
use Rattle.lists.proofs.Tests.{cases}
use Rattle.vertices.specs.Search.{seek}

-- how many vertices there are up to this one
unfoldable pub up_to : Option VertexNumber → ℕ
up_to None = 0
up_to (Some i) = suc i.0

module _ (p : ℕ → Bool) where
  -- a number that passes is found
  pub found : (n : ℕ) → p n ≡ true → seek p (suc n) ≡ Some (record { 0 = n })
  unfolding seek
  found n e = ap (λ (b : Bool). cond b (Some (record { 0 = n })) (seek p n)) e

  -- one that does not is left
  pub passed : (n : ℕ) → p n ≡ false → seek p (suc n) ≡ seek p n
  unfolding seek
  passed n e = ap (λ (b : Bool). cond b (Some (record { 0 = n })) (seek p n)) e

  pub seek_none : seek p 0 ≡ None
  unfolding seek
  seek_none = refl

  pub seek_le : (n : ℕ) → up_to (seek p n) ≤ n
  unfolding seek up_to
  seek_le zero = omega arith
  seek_le (suc n) =
      ⊎_elim (λ e. rw (found n e) (omega arith)) (λ e. rw (passed n e) (omega (arith, seek_le n))) (cases (p n))

  -- what is found passes
  pub seek_hit : (n : ℕ) (i : VertexNumber) → seek p n ≡ Some i → p i.0 ≡ true
  unfolding up_to
  seek_hit zero i h = absurd (let e : 0 ≡ suc i.0 = ap up_to (sym seek_none ∙ h) in omega arith)
  seek_hit (suc n) i h =
      ⊎_elim
      (λ e. let k : suc i.0 ≡ suc n = ap up_to (sym h ∙ found n e) in let j : i.0 ≡ n = omega arith in ap p j ∙ e)
      (λ e. seek_hit n i (sym (passed n e) ∙ h))
      (cases (p n))

  -- where nothing is found, nothing passes
  pub seek_absent : (n i : ℕ) → seek p n ≡ None → i < n → p i ≡ false
  unfolding up_to
  seek_absent zero i e h = absurd (not-suc-le-zero h)
  seek_absent (suc n) i e h =
      ⊎_elim
      (λ t. absurd (let f : 0 ≡ suc n = ap up_to (sym e ∙ found n t) in omega arith))
      (λ t. ⊎_elim (λ q. ap p q ∙ t) (λ l. seek_absent n i (sym (passed n t) ∙ e) l) (eq-or-lt_of_le (le_of_suc-le-suc h)))
      (cases (p n))

  -- two tests that agree below n
  pub seek_cong : (q : ℕ → Bool) (n : ℕ) → ((i : ℕ) → i < n → p i ≡ q i) → seek p n ≡ seek q n
  unfolding seek
  seek_cong q zero h = refl
  seek_cong q (suc n) h = rw (h n (omega arith), seek_cong q n (λ i l. h i (omega arith)))

-- what q does not pass p does not either: the search for p may start at the last that q passes
pub seek_skip : (p q : ℕ → Bool) → ((j : ℕ) → q j ≡ false → p j ≡ false) → (n : ℕ) → seek p n ≡ seek p (up_to (seek q n))
unfolding up_to
seek_skip p q h zero = ap (λ (x : Option VertexNumber). seek p (up_to x)) (sym (seek_none q))
seek_skip p q h (suc n) =
    ⊎_elim
    (λ e. ap (λ (x : Option VertexNumber). seek p (up_to x)) (sym (found q n e)))
    (λ e. passed p n (h n e) ∙ seek_skip p q h n ∙ ap (λ (x : Option VertexNumber). seek p (up_to x)) (sym (passed q n e)))
    (cases (q n))
