use Prim.Native.Nat.{◌+◌}
use mathlib.Core.Path.{sym, ◌∙◌}
use native.Mathlib.Omega.{arith}
use Rattle.lists.proofs.Keep.{seg_at, seg_past}
use Rattle.vertices.proofs.hash.word_where.Goals as goal

pub returns-then-k-n : goal.returns-then-k-n
returns-then-k-n c = (c.wide.ensures ∙ sym (seg_at _ _ _ _ c.if-k-n.true), omega (arith, c.wide.ensures, c.type_inv.key (c.args.at + c.args.k)))

pub returns : goal.returns
returns c = (sym (seg_past _ _ _ _ c.if-k-n.false), omega arith)
