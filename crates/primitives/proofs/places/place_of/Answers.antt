use Rattle.primitives.specs.Kept.{width_of}
use native.Mathlib.Omega.{arith}
use Rattle.primitives.proofs.Counting.{place_three, place_four}
use Rattle.primitives.proofs.Closed.{width_four}
use Rattle.primitives.proofs.places.place_of.Goals as goal

pub overflow_add-result : goal.overflow_add-result
overflow_add-result c = omega (arith, c.requires.1, width_four c.args.g, c.requires.0)

pub fan_place-requires : goal.fan_place-requires
unfolding width_of
fan_place-requires c = (rw c.in-Fans.is at c.requires.0, c.requires.1)

pub strip_place-requires : goal.strip_place-requires
unfolding width_of
strip_place-requires c = (rw c.in-Strips.is at c.requires.0, c.requires.1)

pub overflow_add-result-in-Quads : goal.overflow_add-result-in-Quads
overflow_add-result-in-Quads c = omega (arith, c.requires.1, width_four c.args.g, c.requires.0)

pub returns-in-Triangles : goal.returns-in-Triangles
returns-in-Triangles c = place_three _ _ _ c.requires.0 c.in-Triangles.is

pub returns-in-Quads : goal.returns-in-Quads
returns-in-Quads c = place_four _ _ _ c.requires.0 c.in-Quads.is
