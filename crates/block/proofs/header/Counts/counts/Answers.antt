use Rattle.block.specs.Header.{counts_of}
use Rattle.block.proofs.header.Counts.counts.Goals as goal

pub returns : goal.returns
unfolding counts_of
returns c = cc
