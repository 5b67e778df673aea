-- FORMAT 4: the tables fit the words that are lent.
use Prim.Native.Nat.{ℕ, ◌+◌, ◌*◌, ◌≤◌}
use native.Mathlib.Omega.{arith}
use Rattle.block.specs.Edition.{most}
use Rattle.tables.specs.Layout.{plan_of, Room}

-- a kept face has three corners or more
pub plan_fits : (spots count faces ring len : ℕ) → spots ≤ most → count ≤ most → faces * 3 ≤ count → 8 * (count + spots) + 8 ≤ len → Room len (plan_of spots count faces ring)
unfolding plan_of
plan_fits spots count faces ring len p c f l = record {
  few = c;
  many = omega arith;
  some = p;
  points = omega arith;
  corners = omega arith;
  starts = omega arith;
  numbers = omega arith;
  places = omega arith;
  named = omega arith;
  owners = omega arith;
  rows = omega arith;
  heads = omega arith;
  nexts = omega arith;
  sums = omega arith;
}
