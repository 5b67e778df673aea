use Rattle.answer.proofs.Making.{parts_by}
use borrow.Author.Rules.{rules}
use Rattle.answer.proofs.parts.parts_of.Reads as reads
use Rattle.answer.proofs.parts.parts_of.Lts as lts
use Rattle.answer.proofs.parts.makes_texture.Reads as makes-texture-reads
use Rattle.sizes.proofs.flags_of.Reads as flags-of-reads
use Rattle.answer.proofs.parts.parts_of.Goals as goal

pub returns : goal.returns
returns c = parts_by _ _ _ c.flags_of-flags.ensures c.makes_texture.ensures
