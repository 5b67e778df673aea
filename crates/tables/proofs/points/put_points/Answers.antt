use Rattle.std.proofs.Common.{rules}
use mathlib.Core.Path.{ap, ◌∙◌}
use native.Mathlib.Omega.{arith}
use lib.ListN.{get_or}
use Rattle.bits.specs.Bits.{entries}
use Rattle.bits.proofs.Entries.{entries_length}
use Rattle.lists.specs.Parts.{spliced}
use Rattle.lists.proofs.Tabs.{tab_take}
use Rattle.tables.proofs.Putting.{put_are}
use Rattle.tables.proofs.points.put_points.Goals as goal

pub returns : goal.returns
returns c =
    let es = entries c.args.list.now in
    put_are (λ i. get_or es i 0) c.put_each.ensures (λ i r b e. search rules)
    ∙ ap (spliced _ _) (tab_take 0 es c.args.n (omega (arith, entries_length c.args.list.now, c.requires.0)))
