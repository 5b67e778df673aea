use Rattle.faces.proofs.Turning.{facing_start, facing_ready, facing_room, facing_go, facing_end}
use Rattle.faces.proofs.indices.all_faces.Goals as goal

pub loop-g-init : goal.loop-g-init
loop-g-init c = facing_start _ _ _ _ _ _

pub one_face-at-requires : goal.one_face-at-requires
one_face-at-requires c =
    (facing_ready _ _ _ _ c.requires.0 c.loop-g.invariant _ c.loop-g.auto.floats, c.loop-g-test.true, facing_room _ _ _ _ c.requires.0 c.loop-g.invariant c.loop-g-test.true c.requires.1)

pub loop-g-preserved : goal.loop-g-preserved
loop-g-preserved c =
    facing_go _ _ _ _ c.requires.0 c.loop-g.invariant c.loop-g-test.true c.requires.1 _ _ _ _ c.one_face-at.ensures

pub returns : goal.returns
returns c = facing_end _ _ _ _ _ _ _ _ _ _ _ c.loop-g-test.false c.loop-g.invariant
