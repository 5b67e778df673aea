use Rattle.std.proofs.Common.{rules, tests, nat_lt, get_or, refl, ◌∙◌}
use native.Mathlib.Omega.{arith}
use Rattle.std.proofs.lemmas.Iterator.{YieldsList-from_range}
use Rattle.std.proofs.lemmas.Iterator.Search.{all_from_yields_List}
use Rattle.bits.specs.Bits.{entries}
use Rattle.primitives.specs.Primitives.{places_of}
use Rattle.primitives.proofs.Counting.{present_each}
use Rattle.primitives.proofs.source.Source.is_present.Goals as goal

pub returns : goal.returns
returns c =
    let p = c.args.self.now.points in
    let g = c.args.self.now.g in
    let k = c.args.k in
    let es = entries c.args.self.now.list.now in
    all_from_yields_List (λ i. nat_lt (get_or es (get_or (places_of g k) i 0) 0) p) _ _ _ c.all.ensures.ran (YieldsList-from_range 0 _ _ refl (omega (arith, c.width_of.ensures))) (λ x b q h. search (rules, tests))
    ∙ present_each p g es k
