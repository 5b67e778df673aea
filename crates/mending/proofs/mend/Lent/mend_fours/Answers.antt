use native.Mathlib.Omega.{arith}
use mathlib.Core.Path.{◌≡◌}
use Prim.Native.Nat.{◌/◌}
use Rattle.mending.proofs.Fixing.{none_made, mends_none, mends_then}
use Rattle.mending.proofs.mend.Lent.mend_fours.Goals as goal

pub loop-k-init : goal.loop-k-init
loop-k-init c = (mends_none _ _ _ _ _, none_made _ _ _ _)

pub mend_four-made-requires : goal.mend_four-made-requires
mend_four-made-requires c =
    let a = c.loop-k.auto in
    (omega (arith, c.loop-k-test.true), (omega (arith, c.requires, a.normals), omega (arith, c.requires, a.table)), c.loop-k.invariant.1)

pub loop-k-preserved : goal.loop-k-preserved
loop-k-preserved c =
    (mends_then _ _ _ _ _ 4 (omega arith) (omega arith) (omega (arith, c.loop-k-test.true, c.requires)) c.loop-k.invariant.0 c.mend_four-made.ensures.0, c.mend_four-made.ensures.1)

pub returns : goal.returns
returns c = let e : c.args.self.now.count / 4 ≡ c.loop-k.k = omega arith in rw e c.loop-k.invariant
