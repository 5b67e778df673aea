use mathlib.Core.Path.{refl}
use Rattle.host.proofs.Ends.{part_ends}
use borrow.Author.Rules.{rules}
use Rattle.host.proofs.solids.sitemesh_box.Goals as goal

pub returns : goal.returns
returns c =
    part_ends c.ctx_of-ctx.ensures refl c.box_prim-a.ensures c.answered.ensures
