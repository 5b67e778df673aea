use Rattle.std.proofs.Common.{rules, tests, eqb, ◌∙◌}
use Rattle.std.proofs.lemmas.Iterator.{YieldsList-from_slice}
use Rattle.std.proofs.lemmas.Iterator.Search.{any_from_yields_List}
use Rattle.paths.proofs.Hitting.{any_clear_is}
use Rattle.paths.proofs.pass.any_clear.Goals as goal

pub returns : goal.returns
returns c =
    any_from_yields_List (λ a. eqb a 0) _ _ _ c.any.ensures.ran (YieldsList-from_slice c.args.answers.now (cc)) (λ x b q k. search (rules, tests)) ∙ any_clear_is c.args.answers.now
