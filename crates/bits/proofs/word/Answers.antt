use Rattle.std.proofs.Common.{rules, ◌∙◌}
use Rattle.bits.proofs.Fields.{word_of_bytes}
use Rattle.bits.proofs.word.Goals as goal

pub returns : goal.returns
returns c = c.from_be_bytes.ensures ∙ word_of_bytes _ _ (search rules) (search rules) (search rules) (search rules)
