use Rattle.answer.proofs.Said.{long_printed, block_printed}
use borrow.Author.Rules.{rules}
use Rattle.answer.proofs.texts.answer_text.Reads as reads
use Rattle.answer.proofs.texts.answer_text.Lts as lts
use Rattle.answer.proofs.texts.block_text.Reads as block-text-reads
use Rattle.text.proofs.put_long.Reads as put-long-reads
use Rattle.answer.proofs.texts.answer_text.Goals as goal

pub returns-then-input-gt-LONGEST : goal.returns-then-input-gt-LONGEST
returns-then-input-gt-LONGEST c = long_printed _ _ _ _ c.if-input-gt-LONGEST.true c.put_long.ensures

pub returns : goal.returns
returns c = block_printed _ _ _ _ c.if-input-gt-LONGEST.false c.block_text.ensures
