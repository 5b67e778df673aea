use Rattle.block.proofs.ExtentLaws.{count_is}
use Rattle.block.proofs.extents.block_bytes.Goals as goal

pub returns : goal.returns
returns c = rw c.words_ahead.ensures.0 (count_is c.args.h _ c.list_widths-w.ensures _ c.words_before.ensures.0)
