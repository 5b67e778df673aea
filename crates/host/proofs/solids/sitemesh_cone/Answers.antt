use Rattle.cone.specs.Cone.{cone_of}
use Rattle.host.proofs.Ends.{part_ends}
use borrow.Author.Rules.{rules}
use Rattle.host.proofs.solids.sitemesh_cone.Goals as goal

pub returns : goal.returns
returns c =
    part_ends c.ctx_of-ctx.ensures (λ i. cone_of c.args.bottom_radius c.args.height (c.is_on.ensures i) (c.is_on-2.ensures i) c.args.slices c.args.pairs.now) c.cone-a.ensures c.answered.ensures
