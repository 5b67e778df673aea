use native.Mathlib.Omega.{arith}
use mathlib.Core.Path.{◌≡◌}
use Prim.Native.Nat.{◌-◌}
use Rattle.mending.proofs.Fixing.{mends_none, mends_then}
use Rattle.mending.proofs.mend.Lent.mend_from.Goals as goal

pub loop-k-init : goal.loop-k-init
loop-k-init c = let e : c.args.v - c.args.v ≡ 0 = omega arith in rw e (mends_none _ _ _ _ _, c.requires.2)

pub mend_one-made-requires : goal.mend_one-made-requires
mend_one-made-requires c =
    let a = c.loop-k.auto in
    (c.loop-k-test.true, (omega (arith, c.requires.1, a.normals), omega (arith, c.requires.1, a.table)), c.loop-k.invariant.1)

pub loop-k-preserved : goal.loop-k-preserved
loop-k-preserved c =
    (mends_then _ _ _ _ _ 1 (omega arith) (omega arith) (omega (arith, c.loop-k-test.true, c.requires.1)) c.loop-k.invariant.0 c.mend_one-made.ensures.0, c.mend_one-made.ensures.1)

pub returns : goal.returns
returns c = let e : c.args.self.now.count - c.args.v ≡ c.loop-k.k - c.args.v = omega arith in rw e c.loop-k.invariant.0
