use mathlib.Core.List.{[]}
use Rattle.lists.proofs.Options.{then_some_or}
use Rattle.sphere.proofs.Adding.{quad_first, quad_second, quad_added}
use borrow.Author.Rules.{rules}
use Rattle.sphere.proofs.bands.put_quad.Goals as goal

pub put_tri-next-requires : goal.put_tri-next-requires
put_tri-next-requires c =
    rw (then_some_or [] _ _ c.then_some.ensures) (quad_first c.args.o.n c.args.o.k c.args.j c.args.i c.args.indices.now c.args.at c.requires.2 c.narrow-a.ensures c.narrow-b.ensures c.narrow-c.ensures c.narrow-d.ensures)

pub put_tri-requires : goal.put_tri-requires
put_tri-requires c =
    rw (then_some_or [] _ _ c.then_some-2.ensures) (quad_second c.args.o.n c.args.o.k c.args.j c.args.i c.args.indices.now c.args.at c.requires.2 c.narrow-a.ensures c.narrow-b.ensures c.narrow-c.ensures c.narrow-d.ensures (search rules) (rw (then_some_or [] _ _ c.then_some.ensures) at c.put_tri-next.ensures))

pub returns : goal.returns
returns c =
    quad_added c.args.o.n c.args.o.k c.args.j c.args.i c.args.indices.now c.args.at c.requires.2 c.narrow-a.ensures c.narrow-b.ensures c.narrow-c.ensures c.narrow-d.ensures (rw (then_some_or [] _ _ c.then_some.ensures) at c.put_tri-next.ensures) (rw (then_some_or [] _ _ c.then_some-2.ensures) at c.put_tri.ensures)
