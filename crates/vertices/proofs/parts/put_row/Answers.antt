use Rattle.lists.proofs.Splices.{splice_start}
use Rattle.lists.proofs.Words.{seg_none}
use Rattle.vertices.proofs.parts.put_row.Goals as goal

pub returns-then-w-eq0 : goal.returns-then-w-eq0
returns-then-w-eq0 c = rw (c.if-w-eq0.true, seg_none c.args.src.now c.args.j) (splice_start _ _)
