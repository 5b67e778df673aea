use Rattle.std.specs.Iterator.Adapters.{enumerate_source, enumerate_count}
use Rattle.faceset.proofs.Turns.{Along}
use Rattle.faceset.proofs.listing.list_faces.Given as goal

abbrev pub invariant-loop-number : goal.invariant-loop-number
invariant-loop-number l = Along l.points l.coord l.initial.work l.work l.t (enumerate_source l.number-iterator) (enumerate_count l.number-iterator) l.p
