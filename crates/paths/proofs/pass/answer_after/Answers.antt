use Rattle.std.proofs.Common.{rules, tests}
use Rattle.paths.specs.Pass.{next_answer}
use Rattle.paths.proofs.pass.answer_after.Goals as goal

pub returns-then-answer-eq0 : goal.returns-then-answer-eq0
unfolding next_answer
returns-then-answer-eq0 c = search (rules, tests)

pub returns : goal.returns
unfolding next_answer
returns c = search (rules, tests)
