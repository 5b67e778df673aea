-- FORMAT 8.4: what `find_map` finds over a range of points is the first axis of all.
use mathlib.Core.Path.{◌≡◌, refl, sym, ap, subst, ◌∙◌}
use mathlib.Core.Logic.{◌⊎◌, inl, inr}
use Prim.Native.Nat.{ℕ, zero, suc, ◌+◌, ◌<◌}
use native.Mathlib.Omega.{arith}
use denote.Param.Members.{Mut, Called}
use Rattle.std.specs.Prelude.{Option, Some, None, MatchOption, IsTrue}
use Rattle.std.specs.declared.ops.Range.{Range}
use Rattle.std.proofs.iter.Yields.{nat_range_steps}
use Rattle.std.proofs.iter.runs.Sources.{range_runs}
use Rattle.std.specs.Iterator.Runs.{Run, ItemsCountUp, CallKeepsClosure, AllItemsGive, IsFirstToGive}
use Rattle.lists.proofs.Numbers.{same_or}
use Rattle.lists.proofs.Options.{item_all, item_some}
use Rattle.math.specs.declared.vector.V3.{V3}
use Rattle.mesh.specs.Frames.{or, first_of}

first_none : (f : ℕ → Option V3) (n : ℕ) → ((i : ℕ) → i < n → f i ≡ None) → first_of f n ≡ None
unfolding first_of
first_none f zero h = refl
first_none f (suc n) h = rw (first_none f n (λ i l. h i (omega arith))) (h n (omega arith))

first_some : (f : ℕ → Option V3) (n i : ℕ) (y : V3) → i < n → f i ≡ Some y → ((k : ℕ) → k < i → f k ≡ None) → first_of f n ≡ Some y
unfolding first_of
first_some f zero i y l e h = let z : ⊥ = omega arith in absurd z
first_some f (suc n) i y l e h = go (same_or i n) (λ b. first_some f n i y b e h)
  where
    go : (i ≡ n) ⊎ (i ≡ n → ⊥) → (i < n → first_of f n ≡ Some y) → or (first_of f n) (f n) ≡ Some y
    go (inl q) r = rw (first_none f n (λ k b. h k (omega arith))) (ap f (sym q) ∙ e)
    go (inr d) r = rw (r (omega arith)) refl

module _ {F : Type 0} (g : Mut F (ℕ × Unit {0}) (Option V3)) (f : F) (own : ℕ → Option V3) (n : ℕ) where
  -- f answers by `own`, and stays as it is
  pub found_is : (r : Option V3) (p : Run nat_range_steps) (m : ℕ) → p.from ≡ record { start = 0; end = m } → m ≡ n
      → MatchOption r (IsTrue p.whole × AllItemsGive p g f None) (λ y. (i : ℕ) × (i < p.len) × (p.len ≡ i + 1) × IsFirstToGive p g f (Some y) None i)
      → CallKeepsClosure g f → ((x : ℕ) (r : Option V3) → Called g f (x, tt) r f → r ≡ own x) → r ≡ first_of own n
  found_is r p m e q h K A = by r h (subst (λ (s : Range ℕ). ItemsCountUp p s.start s.end) (e ∙ ap (λ (k : ℕ). record { start = 0; end = k }) q) (range_runs p p.seen))
    where
      by : (r : Option V3) → MatchOption r (IsTrue p.whole × AllItemsGive p g f None) (λ y. (i : ℕ) × (i < p.len) × (p.len ≡ i + 1) × IsFirstToGive p g f (Some y) None i)
          → ItemsCountUp p 0 n → r ≡ first_of own n
      by None m U =
          let e = U.1 m.0 in
          sym (first_none own n (λ i l. sym (A i None (item_all n i (λ x. Called g f (x, tt) None f) (p.at i) (U.3 i (omega (arith, e))) (U.2 i) (m.1 K i)))))
      by (Some y) m U =
          let h = m.3 K in
          sym (first_some own n m.0 y (omega (arith, U.0, m.1)) (sym (A m.0 (Some y) (item_some n m.0 (λ x. Called g f (x, tt) (Some y) f) (p.at m.0) (U.2 m.0) h.0)))
          (λ k b. sym (A k None (item_some n k (λ x. Called g f (x, tt) None f) (p.at k) (U.2 k) (h.1 k b)))))
