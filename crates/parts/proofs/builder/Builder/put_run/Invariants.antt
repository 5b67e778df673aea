use Rattle.std.proofs.Common.{take}
use Rattle.parts.specs.Building.{Pushes}
use Rattle.parts.proofs.builder.Builder.put_run.Given as goal

abbrev pub invariant-loop-i : goal.invariant-loop-i
invariant-loop-i l = Pushes l.k (take l.i l.verts) l.initial.self l.self
