-- Words outside the tables that list faces, while these are written.
use mathlib.Core.Path.{◌≡◌, refl, ◌∙◌}
use mathlib.Core.Logic.{inl}
use mathlib.Core.List.{List}
use Prim.Native.Nat.{ℕ, ◌+◌, ◌≤◌}
use native.Mathlib.Omega.{arith}
use lib.ListN.{length}
use Rattle.tables.specs.declared.layout.Plan.{Plan}
use Rattle.lists.specs.Parts.{spliced, Kept}
use Rattle.tables.specs.Layout.{Room}
use Rattle.tables.specs.Listed.{Beside}
use Rattle.lists.proofs.Keep.{kept_by, out_more}
use Rattle.lists.proofs.Splices.{put_size, put_out}

module _ {t : Plan} where
  pub beside_all : {w : List ℕ} → Beside t w w
  beside_all = record { len = refl; same = λ i p q r s. refl }

  pub beside_then : {u v w : List ℕ} → Beside t u v → Beside t v w → Beside t u w
  beside_then A B = record { len = B.len ∙ A.len; same = λ i p q r s. B.same i p q r s ∙ A.same i p q r s }

  pub beside_kept : {len : ℕ} {w w' : List ℕ} → Room len t → Beside t w w' → Kept t.corners w w'
  beside_kept {len} {w} {w'} R B =
      kept_by t.corners w w' B.len (λ i h. B.same i (inl h) (inl (omega arith)) (inl (omega arith)) (inl (omega arith)))

  -- some words of one of the tables replaced
  module _ (w : List ℕ) (a : ℕ) (p : List ℕ) {n : ℕ} {w' : List ℕ} (e : w' ≡ spliced w a p) (s : length p ≡ n) (h : a + n ≤ length w) where
    pub beside_corners : t.corners ≤ a → a + n ≤ t.corners + t.count → Beside t w w'
    beside_corners l m = record { len = put_size w a p e s h; same = λ i o q r v. put_out w a p e s h 0 i (out_more a n t.corners t.count i l m o) }

    pub beside_starts : t.starts ≤ a → a + n ≤ t.starts + (t.faces + 1) → Beside t w w'
    beside_starts l m = record { len = put_size w a p e s h; same = λ i o q r v. put_out w a p e s h 0 i (out_more a n t.starts (t.faces + 1) i l m q) }

    pub beside_places : t.places ≤ a → a + n ≤ t.places + t.count → Beside t w w'
    beside_places l m = record { len = put_size w a p e s h; same = λ i o q r v. put_out w a p e s h 0 i (out_more a n t.places t.count i l m r) }

    pub beside_numbers : t.numbers ≤ a → a + n ≤ t.numbers + t.faces → Beside t w w'
    beside_numbers l m = record { len = put_size w a p e s h; same = λ i o q r v. put_out w a p e s h 0 i (out_more a n t.numbers t.faces i l m v) }
