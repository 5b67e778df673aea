use mathlib.Core.Path.{sym}
use native.Mathlib.Omega.{arith}
use Rattle.mesh.proofs.Gathered.{gathered_alone, gathered_last, gathered_own}
use Rattle.tables.proofs.reading.gathered.Goals as goal

pub returns-then-ring-eq0 : goal.returns-then-ring-eq0
returns-then-ring-eq0 c = rw c.if-ring-eq0.true (sym (gathered_alone _))

pub returns-then-p-ring : goal.returns-then-p-ring
returns-then-p-ring c = sym (gathered_last c.args.ring c.args.p.0 (omega (arith, c.if-ring-eq0.false)) c.if-p-ring.true)

pub returns : goal.returns
returns c = sym (gathered_own c.args.ring c.args.p.0 (omega (arith, c.if-ring-eq0.false)) c.if-p-ring.false)
