use native.Mathlib.Omega.{arith}
use Rattle.lists.proofs.Pieces.{uneven_none, uneven_more, uneven_room, uneven_all}
use Rattle.sphere.specs.Sphere.{sphere_band}
use Rattle.sphere.proofs.bands.put_bands.Goals as goal

pub loop-j-init : goal.loop-j-init
loop-j-init c = uneven_none

pub put_band-at-requires : goal.put_band-at-requires
put_band-at-requires c = (c.loop-j-test.true, omega (arith, uneven_room (sphere_band c.args.o.n c.args.o.k) c.args.o.k c.loop-j.j c.loop-j-test.true, c.requires, c.loop-j.invariant.next, c.loop-j.invariant.size))

pub loop-j-preserved : goal.loop-j-preserved
loop-j-preserved c = uneven_more (omega (arith, c.requires)) c.loop-j.invariant c.loop-j-test.true c.put_band-at.ensures.next c.put_band-at.ensures.made

pub returns : goal.returns
returns c = uneven_all c.loop-j.invariant (omega (arith, c.loop-j-test.false))
