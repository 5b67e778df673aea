use native.Mathlib.Omega.{arith}
use Rattle.corners.proofs.Rooms.{plan_asked}
use Rattle.lineshape.proofs.filling.line_tables.Goals as goal

pub of_plan-requires : goal.of_plan-requires
of_plan-requires c =
    plan_asked _ _ 0 0 (omega (arith, c.requires.0, c.wide.ensures)) c.requires.1 (omega arith) c.plan_of.ensures
