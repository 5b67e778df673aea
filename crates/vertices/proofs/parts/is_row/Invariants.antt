use mathlib.Core.Path.{◌≡◌}
use Prim.Native.Nat.{◌+◌, ◌*◌, ◌-◌}
use Rattle.lists.specs.Lists.{same_words}
use Rattle.lists.specs.Parts.{seg}
use Rattle.vertices.proofs.parts.is_row.Given as goal

abbrev pub invariant-loop-t : goal.invariant-loop-t
invariant-loop-t l = same_words (seg l.key l.j l.w) (seg l.l (l.w * l.i) l.w) ≡ same_words (seg l.key (l.j + l.t) (l.w - l.t)) (seg l.l (l.w * l.i + l.t) (l.w - l.t))
