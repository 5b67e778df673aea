use Rattle.std.proofs.Common.{◌≡◌, take}
use Rattle.lists.specs.Parts.{spliced}
use Rattle.lists.proofs.put_all.Given as goal

abbrev pub invariant-loop-i : goal.invariant-loop-i
invariant-loop-i g l = l.table ≡ spliced l.initial.table l.a (take l.i l.all)
