-- A loop that puts one piece after another: what is left, put from here on, is what was to be put.
use mathlib.Core.Path.{◌≡◌, refl, sym, ap, ◌∙◌}
use mathlib.Core.List.{List, [], ◌++◌}
use Prim.Native.Nat.{ℕ, ◌+◌, ◌≤◌}
use native.Mathlib.Omega.{arith}
use lib.ListN.{length, length-append}
use lib.Seq.{sets, length-sets}
use Rattle.lists.specs.Parts.{spliced, Added}
use Rattle.lists.proofs.Stores.{sets_append}
use Rattle.lists.proofs.Splices.{splice_start, splice_join, put_size}

-- what is left is a piece, and more
pub record Split {A : Type 0} (rest piece more : List A) : Type 0 where
  pub is : rest ≡ piece ++ more

module _ {A B : Type 0} (put : List B → ℕ → List A → List B) where
  -- a way to put: nothing changes nothing, and a part after a part
  pub record Way : Type 0 where
    pub none : (o : List B) (a : ℕ) → put o a [] ≡ o
    pub joins : (o : List B) (a : ℕ) (xs ys : List A) → put o a (xs ++ ys) ≡ put (put o a xs) (a + length xs) ys

  -- `all` is to be put into o₀ from a₀ on; the list is now o, the place a, and `rest` is left
  pub record Left (all : List A) (a₀ : ℕ) (o₀ : List B) (rest : List A) (a : ℕ) (o : List B) : Type 0 where
    pub next : a + length rest ≡ a₀ + length all
    pub made : put o a rest ≡ put o₀ a₀ all
    pub len : length o ≡ length o₀

  pub left_all : {all : List A} {a : ℕ} {o : List B} → Left all a o all a o
  left_all = record { next = refl; made = refl; len = refl }

-- stores one after another, and splices
pub stores : {A : Type 0} → Way {A = A} {B = A} sets
stores = record { none = λ o a. refl; joins = λ o a xs ys. sets_append xs ys o a }

pub splices : {A : Type 0} → Way {A = A} {B = A} spliced
splices = record { none = λ o a. sym (splice_start o a); joins = splice_join }

module _ {A B : Type 0} {put : List B → ℕ → List A → List B} {all : List A} {a₀ : ℕ} {o₀ : List B} {rest : List A} {a : ℕ} {o : List B} (L : Left put all a₀ o₀ rest a o) where
  module _ {piece more : List A} (S : Split rest piece more) where
    -- the next piece is no longer than what is left
    pub left_here : a + length piece ≤ a₀ + length all
    left_here = omega (arith, ap length S.is, length-append piece more, L.next)

    -- once it is put, where the list stays as long
    pub left_next : Way put → length (put o a piece) ≡ length o → {a' : ℕ} {o' : List B} → Added put piece a o a' o' → Left put all a₀ o₀ more a' o'
    left_next W n {a'} {o'} E =
        record {
          next = omega (arith, ap length S.is, length-append piece more, L.next, E.next);
          made = (λ i. put (E.made i) (E.next i) more) ∙ sym (W.joins o a piece more) ∙ ap (put o a) (sym S.is) ∙ L.made;
          len = ap length E.made ∙ n ∙ L.len;
        }

  pub left_end : Way put → rest ≡ [] → Added put all a₀ o₀ a o
  left_end W e = record { next = omega (arith, ap length e, L.next); made = sym (ap (put o a) e ∙ W.none o a) ∙ L.made }

module _ {A : Type 0} {all : List A} {a₀ : ℕ} {o₀ rest : List A} {a : ℕ} {o piece more : List A} {a' : ℕ} {o' : List A} where
  pub left_stored : Left sets all a₀ o₀ rest a o → Split rest piece more → Added sets piece a o a' o' → Left sets all a₀ o₀ more a' o'
  left_stored L S E = left_next L S stores (length-sets o a piece) E

  -- where there is room for all
  pub left_spliced : Left spliced all a₀ o₀ rest a o → a₀ + length all ≤ length o₀ → Split rest piece more → Added spliced piece a o a' o' → Left spliced all a₀ o₀ more a' o'
  left_spliced L h S E = left_next L S splices (put_size o a piece refl refl (omega (arith, left_here L S, L.len, h))) E
