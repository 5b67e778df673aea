use Rattle.tables.proofs.Spreads.{spread_next}
use Rattle.normals.proofs.facing.owners.Goals as goal

pub loop-g-preserved : goal.loop-g-preserved
loop-g-preserved c =
    let I = c.loop-g.invariant in
    let E = c.stretch_of-e.ensures in
    let k = spread_next _ _ _ _ c.requires I.0 I.2 c.loop-g-test.true E.from E.to c.fill.ensures c.narrow.ensures in
    (k.0, k.1, k.2)
