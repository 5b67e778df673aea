use Rattle.geometry.specs.Answer.{white}
use Rattle.answer.specs.Lending.{fresh, left}
use borrow.Author.Rules.{rules}
use Rattle.answer.proofs.lending.lend_and_convert.Goals as goal

pub returns : goal.returns
unfolding fresh white left
returns c = search rules
