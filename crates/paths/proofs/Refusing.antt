-- What is known of a call that is not refused, and that each ground refuses. Assumes nothing.
use mathlib.Core.Path.{◌≡◌}
use mathlib.Core.Bool.{false}
use mathlib.Core.List.{List}
use Prim.Native.Nat.{ℕ, ◌/◌, ◌%◌, ◌≤◌}
use lib.Dec.{leb}
use lib.ListN.{length}
use borrow.Author.Tests.{eq-eqb, eqb-true, le-ltb, ltb-false, not-false}
use Rattle.lists.specs.Loops.{any}
use Rattle.lists.proofs.Tests.{or_none}
use Rattle.paths.specs.Paths.{paths_in, is_refused}

pub record Accepted (positions indices paths : List ℕ) (room : ℕ) : Type 0 where
  pub full : length paths % 6 ≡ 0
  pub few : paths_in paths ≤ 64
  pub fits : paths_in paths ≤ room
  pub points : length positions % 3 ≡ 0
  pub threes : length indices % 3 ≡ 0
  pub inside : any (leb (length positions / 3)) indices ≡ false

module _ (positions indices paths : List ℕ) (room : ℕ) where
  pub accepted : is_refused positions indices paths room ≡ false → Accepted positions indices paths room
  unfolding is_refused
  accepted e =
      let a = or_none _ _ e in
      let b = or_none _ _ a.1 in
      let c = or_none _ _ b.1 in
      let d = or_none _ _ c.1 in
      let f = or_none _ _ d.1 in
      record {
        full = eqb-true _ _ (not-false _ a.0);
        few = ltb-false _ _ b.0;
        fits = ltb-false _ _ c.0;
        points = eqb-true _ _ (not-false _ d.0);
        threes = eqb-true _ _ (not-false _ f.0);
        inside = f.1;
      }

  pub lets_pass : Accepted positions indices paths room → is_refused positions indices paths room ≡ false
  unfolding is_refused
  lets_pass a =
      rw (eq-eqb _ _ a.full, le-ltb 64 (paths_in paths) a.few, le-ltb room (paths_in paths) a.fits, eq-eqb _ _ a.points, eq-eqb _ _ a.threes)
      a.inside
