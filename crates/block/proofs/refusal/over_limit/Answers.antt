use Rattle.std.proofs.Common.{rules, tests, nat_lt, ◌∙◌}
use Rattle.std.proofs.lemmas.Iterator.{YieldsList-from_slice}
use Rattle.std.proofs.lemmas.Iterator.Search.{any_from_yields_List}
use Rattle.lists.proofs.Below.{any_above}
use Rattle.block.proofs.refusal.over_limit.Goals as goal

pub returns : goal.returns
returns c =
    any_from_yields_List (nat_lt c.args.limit) _ _ _ c.any.ensures.ran (YieldsList-from_slice c.args.n (cc)) (λ x b q k. search (rules, tests)) ∙ any_above c.args.limit c.args.n
