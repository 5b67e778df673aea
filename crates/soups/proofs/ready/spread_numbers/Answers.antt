use native.Mathlib.Omega.{arith}
use Rattle.tables.specs.Soups.{number_in}
use Rattle.tables.proofs.Stays.{number_kept}
use Rattle.tables.proofs.Spreads.{spread_next}
use Rattle.soups.proofs.ready.spread_numbers.Goals as goal

pub loop-g-preserved : goal.loop-g-preserved
unfolding number_in
loop-g-preserved c =
    let I = c.loop-g.invariant in
    let t = c.args.t in
    let S = c.requires in
    let R = S.room in
    let E = c.stretch_of-e.ensures in
    let k = spread_next _ _ _ _ S I.0 I.2 c.loop-g-test.true E.from E.to c.fill.ensures (number_kept I.0 t c.loop-g.g (omega (arith, R.numbers, c.loop-g-test.true))) in
    (k.0, k.1, k.2)
