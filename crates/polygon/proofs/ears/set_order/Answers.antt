use mathlib.Core.Path.{sym, ap, ◌∙◌}
use native.Mathlib.Nat.{sub-zero}
use native.Mathlib.Omega.{arith}
use lib.ListN.{length, take}
use lib.Seq.{take_all}
use Rattle.polygon.specs.Ears.{order}
use Rattle.polygon.proofs.Count.{length_order}
use Rattle.lists.proofs.Loops.{tab_go, tab_end}
use Rattle.lists.proofs.Stores.{take_sets}
use Rattle.polygon.proofs.ears.set_order.Goals as goal

pub loop-i-init : goal.loop-i-init
unfolding order
loop-i-init c = rw sub-zero

pub loop-i-preserved : goal.loop-i-preserved
loop-i-preserved c =
    rw c.place_of.ensures (sym (tab_go _ _ _ _ c.loop-i-test.true) ∙ c.loop-i.invariant)

pub returns : goal.returns
returns c =
    let n = length c.args.idx.now in
    sym (take_all n c.loop-i.idx (omega arith)) ∙ ap (take n) (sym (tab_end _ _ _ _ c.loop-i-test.false) ∙ c.loop-i.invariant) ∙ take_sets c.args.idx.now _ n (length_order _ _) (omega arith)
