-- FORMAT 3, 4: a call for an accepted block, as the proofs of a kind take it.
use lib.ListN.{length}
use Rattle.block.specs.declared.kind.Kind.{Kind}
use Rattle.lent.specs.declared.buffers.Buffers.{Buffers}
use Rattle.lent.specs.Buffers.{slices_in}
use Rattle.lent.specs.Lent.{Asked}
use Rattle.sizes.specs.declared.accepted.AcceptedBlock.{AcceptedBlock}
use Rattle.sizes.specs.Called.{Called}

pub asked : {k : Kind} (a : AcceptedBlock) {b : Buffers} → Called k a b → Asked k a.block.now a.header a.settings (slices_in b) (length b.words.now) (length b.floats.now)
asked a C = record { accepted = a.accepted; kind = C.kind; enough = C.enough }
