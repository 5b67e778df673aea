use mathlib.Core.Path.{ap, ◌∙◌}
use mathlib.Core.Bool.{not}
use Rattle.lists.specs.Named.{named_by}
use Rattle.mending.proofs.Table.{mark_first, mark_again}
use Rattle.mending.proofs.mend.mark.Goals as goal

pub returns-then-is_none : goal.returns-then-is_none
returns-then-is_none c =
    rw (c.put.ensures, c.word_of.ensures) (mark_first _ _ _ _ (c.named_by.ensures ∙ ap named_by c.get.ensures) (c.is_none.ensures ∙ ap not c.if-is_none.true))

pub returns-else-is_none : goal.returns-else-is_none
returns-else-is_none c = mark_again _ _ _ _ (c.named_by.ensures ∙ ap named_by c.get.ensures) (c.is_none.ensures ∙ ap not c.if-is_none.false)
