use mathlib.Core.Path.{sym, ◌∙◌}
use native.Mathlib.Omega.{arith}
use Rattle.polygon.specs.Memo.{hit}
use Rattle.lists.proofs.Found.{none_here, first_all, clear_to}
use Rattle.polygon.proofs.memo.Field.scan_blocks.Goals as goal

pub returns-in-Some : goal.returns-in-Some
unfolding hit
returns-in-Some c = first_all _ _ _ _ (omega arith) c.in-Some.ensures

pub loop-k-preserved : goal.loop-k-preserved
loop-k-preserved c = λ j l. clear_to _ c.min-e.result (sym c.in_default.is ∙ c.scan_block.ensures) j (omega arith)

pub returns : goal.returns
unfolding hit
returns c = none_here _ _ (λ j l. c.loop-k.invariant j (omega arith))

pub returns-in_default : goal.returns-in_default
unfolding hit
returns-in_default c = none_here _ _ (λ j l. clear_to _ c.min-e.result (sym c.in_default.is ∙ c.scan_block.ensures) j (omega arith))
