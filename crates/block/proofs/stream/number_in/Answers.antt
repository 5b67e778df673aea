use mathlib.Core.Path.{◌∙◌}
use Rattle.block.proofs.StreamLaws.{itself_tried, entry_past, entry_given}
use Rattle.block.proofs.stream.number_in.Goals as goal

pub returns-then-n-eq0 : goal.returns-then-n-eq0
returns-then-n-eq0 c = c.ok.ensures.value ∙ itself_tried _ _ c.if-n-eq0.true _ c.try_from.ensures

pub returns-then-k-n : goal.returns-then-k-n
returns-then-k-n c = c.then_some.ensures ∙ entry_given _ _ c.if-n-eq0.false _ _ c.if-k-n.true c.entry-w.ensures c.is_negative.ensures

pub returns : goal.returns
returns c = entry_past _ _ c.if-n-eq0.false c.if-k-n.false
