use mathlib.Core.Path.{refl}
use Rattle.normals.specs.Rows.{sum_in}
use Rattle.normals.proofs.Summing.{sums_read}
use Rattle.normals.proofs.Begun.{every_is, begun_none, begun_next}
use Rattle.normals.proofs.source.Source.every_normals.Goals as goal

pub loop-k-init : goal.loop-k-init
loop-k-init c = begun_none _ c.requires.1 c.requires.0

pub loop-k-preserved : goal.loop-k-preserved
unfolding sum_in
loop-k-preserved c =
    let I = c.loop-k.invariant in
    begun_next _ c.requires.1 _ _ _ c.loop-k-test.true I (every_is _ _ _ _ c.owner_of-own.ensures.0 _ _ _ c.gather_of-p.ensures.0 (sums_read _ _ _ I.summed refl c.gather_of-p.ensures.1 c.load_unit-s.ensures) c.normal_by.ensures) c.put3.ensures
