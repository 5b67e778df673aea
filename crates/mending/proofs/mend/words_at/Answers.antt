use Rattle.mesh.specs.Words.{point_words}
use Rattle.mending.proofs.mend.words_at.Goals as goal

pub returns : goal.returns
unfolding point_words
returns c = λ i. record { x = c.get.ensures i; y = c.get-2.ensures i; z = c.get-3.ensures i }
