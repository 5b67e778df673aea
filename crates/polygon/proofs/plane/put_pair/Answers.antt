use native.Mathlib.Numerals.{add-one}
use Rattle.polygon.specs.Plane.{flat2}
use Rattle.polygon.proofs.plane.put_pair.Goals as goal

pub returns : goal.returns
unfolding flat2
returns c = rw (c.put-2.ensures, c.put.ensures, add-one c.args.k)
