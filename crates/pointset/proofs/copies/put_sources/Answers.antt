use Rattle.tables.proofs.Putting.{put_are}
use Rattle.pointset.proofs.copies.put_sources.Goals as goal

pub returns : goal.returns
returns c = put_are (λ k. k) c.put_each.ensures (λ k r b e. e)
