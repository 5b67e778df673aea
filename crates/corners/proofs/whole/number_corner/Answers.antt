use native.Mathlib.Omega.{arith}
use Rattle.corners.proofs.Corners.{number_few}
use Rattle.corners.proofs.whole.number_corner.Goals as goal

pub narrow-requires : goal.narrow-requires
narrow-requires c =
    omega (arith, number_few c.requires.0 c.vertex-r.ensures.vertexed, c.requires.0.room.roomy)
