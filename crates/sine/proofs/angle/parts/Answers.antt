use mathlib.Core.Path.{◌∙◌}
use native.Mathlib.Omega.{arith}
use Rattle.sine.proofs.Division.{parts_none, parts_some}
use Rattle.sine.proofs.angle.parts.Goals as goal

-- `sine::parts` meets its contract. Assumes nothing.
pub returns-then-e-lt54 : goal.returns-then-e-lt54
returns-then-e-lt54 c = parts_none c.args.m c.args.e (omega arith) (omega arith)

pub returns : goal.returns
returns c = c.quotient.ensures ∙ parts_some c.args.m c.args.e (omega arith)
