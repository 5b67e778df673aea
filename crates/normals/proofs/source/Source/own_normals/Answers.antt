use Rattle.normals.proofs.Begun.{own_is, begun_none, begun_next}
use Rattle.normals.proofs.source.Source.own_normals.Goals as goal

pub loop-k-init : goal.loop-k-init
loop-k-init c = begun_none _ c.requires.1 c.requires.0

pub loop-k-preserved : goal.loop-k-preserved
loop-k-preserved c =
    let I = c.loop-k.invariant in
    begun_next _ c.requires.1 _ _ _ c.loop-k-test.true I (own_is _ _ _ _ c.owner_of-own.ensures.0 _ c.own_normal.ensures) c.put3.ensures
