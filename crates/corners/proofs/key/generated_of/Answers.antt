use Rattle.corners.proofs.Floats.{generated_words}
use Rattle.corners.proofs.key.generated_of.Goals as goal

pub returns : goal.returns
returns c = generated_words _ _ _ c.requires c.bits_of.ensures c.bits_of-2.ensures c.bits_of-3.ensures
