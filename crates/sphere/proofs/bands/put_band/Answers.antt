use native.Mathlib.Omega.{arith}
use Rattle.lists.proofs.Pieces.{uneven_none, uneven_more, uneven_room, uneven_added}
use Rattle.sphere.specs.Sphere.{sphere_quad, sphere_band}
use Rattle.sphere.proofs.bands.put_band.Goals as goal

pub loop-i-init : goal.loop-i-init
loop-i-init c = uneven_none

pub put_quad-at-requires : goal.put_quad-at-requires
unfolding sphere_band
put_quad-at-requires c = (c.requires.0, c.loop-i-test.true, omega (arith, uneven_room (sphere_quad c.args.o.n c.args.o.k c.args.j) c.args.o.n c.loop-i.i c.loop-i-test.true, c.requires.1, c.loop-i.invariant.next, c.loop-i.invariant.size))

pub loop-i-preserved : goal.loop-i-preserved
unfolding sphere_band
loop-i-preserved c =
    uneven_more c.requires.1 c.loop-i.invariant c.loop-i-test.true c.put_quad-at.ensures.next c.put_quad-at.ensures.made

pub returns : goal.returns
unfolding sphere_band
returns c = uneven_added c.loop-i.invariant (omega (arith, c.loop-i-test.false))
