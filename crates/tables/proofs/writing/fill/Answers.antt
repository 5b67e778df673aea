use Rattle.std.proofs.Common.{◌≡◌, ◌-◌, ◌+◌, replicate, arith, rules}
use Rattle.std.proofs.lemmas.List.{length-replicate}
use Rattle.lists.proofs.Splices.{mid_spliced}
use Rattle.tables.proofs.writing.fill.Goals as goal

pub returns : goal.returns
returns c =
    let k : c.args.a + c.args.n - c.args.a ≡ c.args.n = omega arith in
    let e : c.fill.new.self ≡ replicate c.args.n c.args.v = search (rules, k) in
    mid_spliced _ _ _ e (omega (arith, length-replicate c.args.n c.args.v))
