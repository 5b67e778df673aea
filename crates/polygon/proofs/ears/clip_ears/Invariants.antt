use mathlib.Core.List.{map}
use mathlib.Core.Path.{◌≡◌}
use Prim.Native.Nat.{◌-◌, ◌*◌}
use lib.ListN.{length, take}
use lib.Seq.{sets}
use Rattle.polygon.specs.Ears.{flat, turn, clip}
use Rattle.polygon.specs.Memo.{xy, Held}
use Rattle.polygon.proofs.ears.clip_ears.Given as goal

abbrev pub invariant-loop-t : goal.invariant-loop-t
invariant-loop-t l =
    (sets l.out (l.t * 3) (flat (map (turn l.rev) (clip (xy l.initial.s.p.now) (length l.initial.order * length l.initial.order - l.t) (take (length l.initial.order - l.t) l.order))))
    ≡ sets l.initial.out 0 (flat (map (turn l.rev) (clip (xy l.initial.s.p.now) (length l.initial.order * length l.initial.order) l.initial.order))))
    × Held (xy l.initial.s.p.now) (take (length l.initial.order - l.t) l.order) l.s.left.now l.s.memo.now × (l.s.p ≡ l.initial.s.p)
