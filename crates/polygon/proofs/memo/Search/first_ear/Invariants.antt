use mathlib.Core.Path.{◌≡◌}
use Prim.Native.Nat.{◌-◌}
use lib.ListN.{length}
use Rattle.polygon.specs.Ears.{is_ear, first_ear}
use Rattle.lists.specs.Loops.{first}
use Rattle.polygon.specs.Memo.{xy, Searched}
use Rattle.polygon.proofs.memo.Search.first_ear.Given as goal

abbrev pub invariant-loop-i : goal.invariant-loop-i
invariant-loop-i l =
    (first (is_ear (xy l.initial.self.p.now) l.order) (length l.order - l.i) l.i ≡ first_ear (xy l.initial.self.p.now) l.order)
    × Searched (xy l.initial.self.p.now) l.initial.self.left.now l.self.left.now l.self.memo.now × (l.self.p ≡ l.initial.self.p)
