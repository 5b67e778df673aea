use Rattle.block.proofs.ExtentLaws.{place_is, place_past}
use Rattle.block.proofs.extents.list_place.Goals as goal

pub returns-then-k-lt8 : goal.returns-then-k-lt8
returns-then-k-lt8 c = rw c.words_ahead.ensures.0 (place_is c.args.h _ c.list_widths-w.ensures _ _ _ c.words_before.ensures.0 c.list_words.ensures.0)

pub returns : goal.returns
returns c = rw c.words_ahead-2.ensures.0 (place_past c.args.h _ c.list_widths-w.ensures _ _ c.if-k-lt8.false c.words_before-2.ensures.0)
