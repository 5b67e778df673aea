use Rattle.std.proofs.Common.{rules, tests, ◌-◌, ◌*◌, ◌/◌, ◌+◌, ◌≡◌, length, drop, ap, sym, ◌∙◌}
use native.Mathlib.Omega.{arith}
use lib.ListN.{length-drop, take}
use lib.Seq.{take_all}
use Rattle.std.specs.Option.{unwrap_or}
use Rattle.std.proofs.lemmas.Iterator.Search.{position_from_yields_List}
use Rattle.bits.specs.Bits.{entries}
use Rattle.bits.proofs.Entries.{entries_length}
use Rattle.bits.proofs.Chunks.{YieldsList-from_entries, entries_drop}
use Rattle.block.specs.Runs.{ends_run, run_length}
use Rattle.block.proofs.RunLaws.{first_end, run_le}
use Rattle.block.proofs.runs.run_end.Goals as goal

pub returns : goal.returns
returns c =
    let bs = drop (4 * c.args.start) c.args.list.now in
    let all : take (length c.args.list.now - 4 * c.args.start) bs ≡ bs = take_all _ bs (omega (arith, length-drop (4 * c.args.start) c.args.list.now)) in
    let found = position_from_yields_List ends_run _ _ _ c.position.ensures.ran (YieldsList-from_entries bs (c.chunks_exact.ensures.rest ∙ all) c.chunks_exact.ensures.size) (λ x b q k. search (rules, tests)) in
    let ws = entries c.args.list.now in
    let k : c.unwrap_or.result ≡ run_length (drop c.args.start ws) =
    c.unwrap_or.ensures ∙ ap (λ r. unwrap_or c.position.result (length r / 4)) all ∙ ap (unwrap_or c.position.result) (sym (entries_length bs)) ∙ first_end (entries bs) c.position.result found
    ∙ ap run_length (entries_drop c.args.list.now c.args.start c.requires) in
    (ap (λ n. c.args.start + n) k, omega (arith, k, run_le (drop c.args.start ws), length-drop c.args.start ws, entries_length c.args.list.now))
