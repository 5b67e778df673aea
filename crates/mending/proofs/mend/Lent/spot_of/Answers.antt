use mathlib.Core.Path.{sym, ap, ◌∙◌}
use mathlib.Core.List.{[]}
use Rattle.mesh.specs.Words.{floats}
use Rattle.mending.proofs.Lent.{spot_in, spot_out}
use Rattle.mending.proofs.mend.Lent.spot_of.Goals as goal

pub returns-then-v-self : goal.returns-then-v-self
returns-then-v-self c = c.floats_of.ensures ∙ ap floats c.words_at.ensures ∙ sym (spot_in _ [] _ _ c.if-v-self.true)

pub returns : goal.returns
returns c = c.floats_of-2.ensures ∙ ap floats c.words_at-2.ensures ∙ sym (spot_out _ [] _ _ c.if-v-self.false)
