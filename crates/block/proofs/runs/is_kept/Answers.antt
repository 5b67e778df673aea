use Rattle.std.proofs.Common.{rules, tests, nat_lt, ◌∙◌}
use borrow.Author.Tests.{lt-leb}
use native.Mathlib.Omega.{arith}
use Rattle.std.proofs.lemmas.Iterator.Search.{all_from_yields_List}
use Rattle.bits.specs.Bits.{entries}
use Rattle.bits.proofs.Entries.{entries_length}
use Rattle.bits.proofs.Chunks.{YieldsList-from_entries}
use Rattle.lists.proofs.Below.{below_each}
use Rattle.block.proofs.RunLaws.{kept_short, kept_below_all}
use Rattle.block.proofs.runs.is_kept.Goals as goal

pub returns-then-run-ge3 : goal.returns-then-run-ge3
returns-then-run-ge3 c =
    let p = c.args.points in
    let ws = entries c.args.run.now in
    let l = entries_length c.args.run.now in
    all_from_yields_List (λ w. nat_lt w p) _ _ _ c.all.ensures.ran (YieldsList-from_entries _ c.chunks_exact.ensures.rest c.chunks_exact.ensures.size) (λ x b q k. search (rules, tests))
    ∙ below_each p ws
    ∙ kept_below_all p ws (omega arith)

pub returns-else-run-ge3 : goal.returns-else-run-ge3
returns-else-run-ge3 c = let l = entries_length c.args.run.now in lt-leb 3 _ c.if-run-ge3.false ∙ kept_short _ _ (omega arith)
