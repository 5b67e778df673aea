use native.Mathlib.Omega.{arith}
use Rattle.parts.proofs.Holding.{held_between}
use Rattle.parts.proofs.round.round_of.Goals as goal

pub invariant_of-result : goal.invariant_of-result
invariant_of-result c = record { few = omega (arith, c.held.ensures, held_between c.args.slices 3 (omega arith)) }
