use Rattle.std.proofs.Common.{rules, tests, leb, ◌∙◌}
use Rattle.std.proofs.lemmas.Iterator.{YieldsList-from_slice}
use Rattle.std.proofs.lemmas.Iterator.Search.{any_from_yields_List}
use Rattle.lists.proofs.Searches.{any_is}
use Rattle.paths.proofs.refusal.any_beyond.Goals as goal

pub returns : goal.returns
returns c =
    any_from_yields_List (leb c.args.n) _ _ _ c.any.ensures.ran (YieldsList-from_slice c.args.indices.now (cc)) (λ x b q k. search (rules, tests)) ∙ any_is (leb c.args.n) c.args.indices.now
