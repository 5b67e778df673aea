use Rattle.cylinder.specs.Cylinder.{cylinder_of}
use Rattle.host.proofs.Ends.{part_ends}
use borrow.Author.Rules.{rules}
use Rattle.host.proofs.solids.sitemesh_cylinder.Goals as goal

pub returns : goal.returns
returns c =
    part_ends c.ctx_of-ctx.ensures (λ i. cylinder_of c.args.radius c.args.height (c.is_on.ensures i) (c.is_on-2.ensures i) (c.is_on-3.ensures i) c.args.slices c.args.pairs.now) c.cylinder-a.ensures c.answered.ensures
