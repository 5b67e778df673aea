-- A value that is there where a test holds, and else none.
use mathlib.Core.Path.{◌≡◌, refl, ap, ◌∙◌, subst}
use mathlib.Core.Bool.{Bool, true, false, cond}
use Prim.Native.Nat.{ℕ, ◌+◌, ◌<◌}
use native.Mathlib.Nat.{zero-add}
use Rattle.std.specs.Prelude.{Option, Some, None, IfSome, IsSomeAnd, is_some, unwrap_or}
use Rattle.std.specs.Option.{option_map}
use Rattle.std.specs.Bool.{then_some}
use Rattle.std.proofs.lemmas.Option.{none-some, same_Some}

module _ {A : Type 0} where
  pub is_some_then : (b : Bool) (x : A) → is_some (then_some b x) ≡ b
  is_some_then true x = refl
  is_some_then false x = refl

  pub then_some_is : (b : Bool) (x y : A) → then_some b x ≡ Some y → (b ≡ true) × (x ≡ y)
  then_some_is true x y e = (refl, same_Some x y e)
  then_some_is false x y e = absurd (none-some y e)

  pub then_some_or : (d : A) (b : Bool) (x : A) {o : Option A} → o ≡ then_some b x → unwrap_or o d ≡ cond b x d
  then_some_or d b x e = ap (λ (o : Option A). unwrap_or o d) e ∙ go b
    where
      go : (b : Bool) → unwrap_or (then_some b x) d ≡ cond b x d
      go true = refl
      go false = refl

  -- what is asked of the value that is there
  pub if_there : (b : Bool) (x : A) {o : Option A} → o ≡ then_some b x → (P : A → Type 0) → (b ≡ true → P x) → IfSome o P
  if_there b x e P f = rw e (go b f)
    where
      go : (b : Bool) → (b ≡ true → P x) → IfSome (then_some b x) P
      go true f = f refl
      go false f = tt

-- what holds of item i of a range from 0 holds of i
pub item_all : (n i : ℕ) (P : ℕ → Type 0) (o : Option ℕ) → option_map (λ y. y) o ≡ Some (0 + i) → IfSome o (λ x. (x ≡ 0 + i) × (x < n)) → IfSome o P → P i
item_all n i P None e u h = absurd (none-some _ e)
item_all n i P (Some x) e u h = subst P (u.0 ∙ zero-add i) h

pub item_some : (n i : ℕ) (P : ℕ → Type 0) (o : Option ℕ) → IfSome o (λ x. (x ≡ 0 + i) × (x < n)) → IsSomeAnd o P → P i
item_some n i P None u h = absurd h
item_some n i P (Some x) u h = subst P (u.0 ∙ zero-add i) h
