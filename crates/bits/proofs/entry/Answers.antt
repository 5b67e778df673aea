use borrow.Author.Rules.{rules}
use mathlib.Core.Path.{sym, ◌∙◌}
use Rattle.bits.proofs.Entries.{entries_at}
use Rattle.bits.proofs.entry.Goals as goal

pub returns : goal.returns
returns c = c.word.ensures ∙ sym (entries_at _ _ (search rules))
