use mathlib.Core.Path.{ap, ◌∙◌}
use Rattle.answer.specs.Text.{parts_of}
use borrow.Author.Rules.{rules}
use Rattle.answer.proofs.parts.parts_in.Reads as reads
use Rattle.answer.proofs.parts.parts_in.Lts as lts
use Rattle.answer.proofs.parts.parts_of.Reads as parts-of-reads
use Rattle.block.proofs.read_header.Reads as read-header-reads
use Rattle.answer.proofs.parts.parts_in.Goals as goal

pub returns : goal.returns
returns c = c.parts_of.ensures ∙ ap parts_of c.read_header.ensures
