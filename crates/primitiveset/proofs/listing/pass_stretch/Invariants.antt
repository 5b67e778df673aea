use Rattle.block.specs.Runs.{next_start}
use Rattle.primitiveset.proofs.Turns.{Along}
use Rattle.primitiveset.proofs.listing.pass_stretch.Given as goal

abbrev pub invariant-loop-k : goal.invariant-loop-k
invariant-loop-k l = Along l.x.points l.x.g l.x.list.now l.initial.work l.work l.t l.start l.part (next_start l.start l.part) l.k l.p
