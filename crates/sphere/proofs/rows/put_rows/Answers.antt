use native.Mathlib.Omega.{arith}
use Rattle.lists.specs.Lists.{flat}
use Rattle.lists.specs.Loops.{tab}
use Rattle.sphere.specs.Sphere.{sphere_row}
use Rattle.sphere.proofs.Sized.{row_length}
use Rattle.parts.proofs.Building.{pushes_none, list_room, list_more}
use Rattle.sphere.proofs.rows.put_rows.Goals as goal

pub loop-j-init : goal.loop-j-init
unfolding flat tab
loop-j-init c = pushes_none _ _

pub put_row-requires : goal.put_row-requires
put_row-requires c =
    (omega (arith, c.loop-j-test.true), list_room (sphere_row c.args.o.r c.args.o.n c.args.o.k c.args.pairs.now) (row_length c.args.o.r c.args.o.n c.args.o.k c.args.pairs.now) c.requires c.loop-j.invariant c.loop-j-test.true (omega arith))

pub loop-j-preserved : goal.loop-j-preserved
loop-j-preserved c =
    list_more (sphere_row c.args.o.r c.args.o.n c.args.o.k c.args.pairs.now) (row_length c.args.o.r c.args.o.n c.args.o.k c.args.pairs.now) c.requires c.loop-j.invariant c.loop-j-test.true (omega arith) c.put_row.ensures
