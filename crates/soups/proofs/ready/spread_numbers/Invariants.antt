use Rattle.lists.specs.Parts.{Kept}
use Rattle.tables.specs.Soups.{number_in, Sound, Spread}
use Rattle.soups.proofs.ready.spread_numbers.Given as goal

abbrev pub invariant-loop-g : goal.invariant-loop-g
invariant-loop-g l = Kept l.t.owners l.initial.work l.work × Sound l.work l.t × Spread l.initial.work l.work l.t (number_in l.initial.work l.t) l.g
