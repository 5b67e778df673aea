use Rattle.std.proofs.Common.{rules, tests, length, ◌/◌, ◌∙◌, ap, refl, ℕ, ◌≡◌, ◌<◌, ◌^◌}
use native.Mathlib.Omega.{arith}
use Rattle.std.specs.declared.ops.Range.{Range}
use Rattle.std.proofs.lemmas.Iterator.{YieldsList-from_range, serves_from_Range}
use Rattle.std.proofs.lemmas.Iterator.Consumers.{YieldsList-from_filter, count_from_yields_List}
use Rattle.bits.specs.Bits.{entries}
use Rattle.bits.proofs.Entries.{entries_length}
use Rattle.lists.specs.Lists.{all_below}
use Rattle.primitives.specs.Primitives.{primitive_count, primitive_of}
use Rattle.primitives.proofs.Counting.{count_most, count_kept}
use Rattle.primitives.proofs.source.Source.kept_here.Goals as goal

pub count-requires-clause-can : goal.count-requires-clause-can
count-requires-clause-can c =
    let m = count_most c.args.self.now.g (length c.args.self.now.list.now / 4) in
    let e = ap (λ (r : Range ℕ). r.end) c.filter.ensures.source in
    (tt, tt, serves_from_Range (λ x q k. search (rules, tests)) (λ x low high. let b : x < 2 ^ 61 = omega (arith, high, e, m, c.count_in-n.ensures) in λ y same _ _ _ _ _ _. omega (arith, same, b)))

pub returns : goal.returns
returns c =
    let p = c.args.self.now.points in
    let g = c.args.self.now.g in
    let es = entries c.args.self.now.list.now in
    let l = entries_length c.args.self.now.list.now in
    let n : c.count_in-n.result ≡ primitive_count g (length es) = rw l c.count_in-n.ensures in (
      count_from_yields_List _ _ c.count.ensures.ran (YieldsList-from_filter _ (λ k. all_below p (primitive_of g es k)) (YieldsList-from_range 0 _ _ c.filter.ensures.source refl) c.filter.ensures.closure (λ x b q k. search (rules, tests))) ∙ count_kept (primitive_of g es) p g es _ (omega (arith, n)),
      omega (arith, c.count.ensures.bound, ap (λ (r : Range ℕ). r.start) c.filter.ensures.source, ap (λ (r : Range ℕ). r.end) c.filter.ensures.source, c.count_in-n.ensures, count_most g (length c.args.self.now.list.now / 4)),
    )
