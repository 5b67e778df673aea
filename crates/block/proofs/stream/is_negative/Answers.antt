use borrow.Author.Rules.{rules}
use Rattle.block.specs.Stream.{is_negative}
use Rattle.block.proofs.stream.is_negative.Goals as goal

pub returns : goal.returns
unfolding is_negative
returns c = search rules
