use mathlib.Core.Path.{sym, ◌∙◌}
use Rattle.mending.proofs.Table.{noted_some, noted_none}
use Rattle.mending.proofs.mend.Lent.note.Goals as goal

pub returns-then-is_some : goal.returns-then-is_some
returns-then-is_some c = c.mark_all.ensures ∙ noted_some _ _ _ _ _ _ c.triangle_normal.ensures (sym c.is_some.ensures ∙ c.if-is_some.true)

pub returns-else-is_some : goal.returns-else-is_some
returns-else-is_some c = noted_none _ _ _ _ _ _ c.triangle_normal.ensures (sym c.is_some.ensures ∙ c.if-is_some.false)
