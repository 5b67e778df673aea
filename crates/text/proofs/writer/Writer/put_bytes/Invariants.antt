use Rattle.std.proofs.Common.{take}
use Rattle.text.specs.Wrote.{Writes}
use Rattle.text.proofs.writer.Writer.put_bytes.Given as goal

abbrev pub invariant-loop-v : goal.invariant-loop-v
invariant-loop-v l = Writes l.initial.self (take l.v-index l.text) l.v-index l.self
