-- The two triangles of a quad of a sphere, one after the other.
use mathlib.Core.Path.{◌≡◌, ap, subst}
use mathlib.Core.Bool.{not, cond}
use mathlib.Core.List.{List, [], ◌∷◌}
use Prim.Native.Nat.{ℕ, ◌+◌, ◌*◌, ◌≤◌}
use native.Mathlib.Omega.{arith}
use lib.Dec.{eqb}
use lib.ListN.{length, length-append}
use Rattle.lists.specs.Parts.{Added, spliced}
use Rattle.lists.proofs.Pieces.{added_both}
use Rattle.sphere.specs.Sphere.{sphere_quad}

module _ (n k j i : ℕ) (l : List ℕ) (at : ℕ) where
  abbrev first : List ℕ
  first = cond (not (eqb j 0)) ((j * (n + 1) + i) ∷ (j * (n + 1) + i + 1) ∷ (j * (n + 1) + i + (n + 1) + 1) ∷ []) []

  abbrev second : List ℕ
  second = cond (not (eqb (j + 1) k)) ((j * (n + 1) + i) ∷ (j * (n + 1) + i + (n + 1) + 1) ∷ (j * (n + 1) + i + (n + 1)) ∷ []) []

  module _ (room : at + length (sphere_quad n k j i) ≤ length l) where
    both_fit : at + (length first + length second) ≤ length l
    unfolding sphere_quad
    both_fit = omega (arith, room, length-append first second)

    module _ {a b c d : ℕ} (ea : a ≡ j * (n + 1) + i) (eb : b ≡ j * (n + 1) + i + 1) (ec : c ≡ j * (n + 1) + i + (n + 1) + 1) (ed : d ≡ j * (n + 1) + i + (n + 1)) where
      abbrev one : List ℕ
      one = cond (not (eqb j 0)) (a ∷ b ∷ c ∷ []) []

      abbrev two : List ℕ
      two = cond (not (eqb (j + 1) k)) (a ∷ c ∷ d ∷ []) []

      one_is : one ≡ first
      one_is = λ t. cond (not (eqb j 0)) (ea t ∷ eb t ∷ ec t ∷ []) []

      two_is : two ≡ second
      two_is = λ t. cond (not (eqb (j + 1) k)) (ea t ∷ ec t ∷ ed t ∷ []) []

      pub quad_first : at + length one ≤ length l
      quad_first = omega (arith, both_fit, ap length one_is)

      pub quad_second : {u : ℕ} {l' : List ℕ} → length l' ≡ length l → Added spliced one at l u l' → u + length two ≤ length l'
      quad_second e p = omega (arith, both_fit, ap length one_is, ap length two_is, p.next)

      pub quad_added : {u v : ℕ} {l' l'' : List ℕ} → Added spliced one at l u l' → Added spliced two u l' v l'' → Added spliced (sphere_quad n k j i) at l v l''
      unfolding sphere_quad
      quad_added {u} {v} {l'} {l''} p q =
          added_both l first second room (subst (λ (x : List ℕ). Added spliced x at l u l') one_is p) (subst (λ (x : List ℕ). Added spliced x u l' v l'') two_is q)
