-- FORMAT 10.2: C corners ask for at most C each, so that as many as edition 1 allows never use up the budget.
use mathlib.Core.Path.{sym, subst}
use mathlib.Core.Bool.{Bool, true, false, cond}
use mathlib.Core.List.{List, [], ◌∷◌}
use Prim.Native.Nat.{ℕ, suc, ◌*◌, ◌≤◌}
use native.Mathlib.Nat.{le_trans, mul-one, mul-le-mul}
use native.Mathlib.Omega.{arith}
use lib.Dec.{eqb}
use lib.ListN.{length, length-append}
use Rattle.block.specs.Edition.{edition1}
use Rattle.lists.specs.Lists.{join_n, total}
use Rattle.lists.proofs.Totals.{total_within, total_ones}
use Rattle.mesh.specs.Soup.{Corner, Face, Frame}
use Rattle.mesh.specs.Normals.{facing, Hit, hits, hits_of, incident}
use Rattle.mesh.specs.Budget.{crease_budget, asked, asked_by, asked_in_all}

hits_within : (p : ℕ) (h : Hit) (g : Face) → length (hits p h g) ≤ length g
unfolding hits
hits_within p h [] = omega arith
hits_within p h (c ∷ cs) = go (eqb c.gather p) (hits_within p h cs)
  where
    go : (b : Bool) → length (hits p h cs) ≤ length cs → length (cond b (h ∷ hits p h cs) (hits p h cs)) ≤ suc (length cs)
    go true e = omega arith
    go false e = omega arith

module _ (F : Frame) where
  joined_within : (p n : ℕ) (fs : List Face) → length (join_n (hits_of F p) n fs) ≤ total length fs
  unfolding join_n hits_of total
  joined_within p n [] = omega arith
  joined_within p n (f ∷ fs) =
      let a : length (hits_of F p n f) ≤ length f = hits_within p (record { face = n; normal = facing F f }) f in
      let b = joined_within p (suc n) fs in
      let e = length-append (hits_of F p n f) (join_n (hits_of F p) (suc n) fs) in
      omega arith

  -- at most all corners meet at one number
  pub asked_within : (fs : List Face) (p : ℕ) → asked F fs p ≤ total length fs
  unfolding asked incident
  asked_within fs p = joined_within p 0 fs

  face_within : (fs : List Face) (f : Face) → asked_by F fs f ≤ total length fs * length f
  unfolding asked_by
  face_within fs f =
      let each : (c : Corner) → asked F fs c.gather ≤ total length fs * 1 = λ (c : Corner). subst (λ (k : ℕ). asked F fs c.gather ≤ k) (sym (mul-one (total length fs))) (asked_within fs c.gather) in
      subst (λ (k : ℕ). asked_by F fs f ≤ total length fs * k) (total_ones f) (total_within (λ (c : Corner). asked F fs c.gather) (λ c. 1) (total length fs) each f)

  -- all corners together ask for at most the square of their number
  pub asked_square : (fs : List Face) → asked_in_all F fs ≤ total length fs * total length fs
  unfolding asked_in_all
  asked_square fs = total_within (asked_by F fs) length (total length fs) (face_within fs) fs

  -- FORMAT 10.2: within the limit of edition 1 the budget is never used up
  pub budget_holds : (fs : List Face) → total length fs ≤ edition1.limit → asked_in_all F fs ≤ crease_budget
  unfolding crease_budget edition1
  budget_holds fs h = le_trans (asked_square fs) (mul-le-mul h h)
