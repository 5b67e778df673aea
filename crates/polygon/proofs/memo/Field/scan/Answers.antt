use Rattle.std.proofs.Common.{◌≡◌, true, false, rules, tests}
use Rattle.std.proofs.lemmas.Iterator.{first_from_Range, serves_from_Range}
use Rattle.polygon.specs.Memo.{xy, inside, hits}
use Rattle.lists.proofs.Found.{found_by}
use Rattle.polygon.proofs.memo.Field.scan.Goals as goal

pub find-requires : goal.find-requires
find-requires c = record { can = tt; finite = tt; callable = serves_from_Range (λ x q k. search (rules, tests)) (λ x low high. search rules) }

pub returns : goal.returns
returns c =
    let f = hits c.args.self.now.left.now (inside (xy c.args.self.now.p.now) c.args.self.now.t.a c.args.self.now.t.b c.args.self.now.t.c) in
    found_by f c.args.from c.args.to _ c.requires.1 c.requires.2
    (first_from_Range _ _ _ _ (λ i. f i ≡ true) (λ i. f i ≡ false) c.find.ensures.ran
    (λ x q k. search (rules, tests))
    (λ x q k. (search rules, search (rules, tests))))
