use Prim.Native.Nat.{◌*◌}
use mathlib.Core.Path.{refl}
use Rattle.lists.specs.Lists.{same_words}
use Rattle.lists.proofs.Words.{seg_none}
use Rattle.vertices.proofs.parts.same_row.Goals as goal

pub returns-then-w-eq0 : goal.returns-then-w-eq0
unfolding same_words
returns-then-w-eq0 c = rw (c.if-w-eq0.true, seg_none c.args.key.now c.args.j, seg_none c.args.l.now (0 * c.args.i)) refl
