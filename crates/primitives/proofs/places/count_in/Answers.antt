use mathlib.Core.Logic.{inl, inr}
use Rattle.primitives.specs.Primitives.{primitive_count}
use Rattle.primitives.proofs.places.count_in.Goals as goal

pub returns-in-Triangles : goal.returns-in-Triangles
unfolding primitive_count
returns-in-Triangles c = rw c.in-Triangles.is

pub returns-in-Fans : goal.returns-in-Fans
unfolding primitive_count
returns-in-Fans c = elim c.in-Fans.is [ inl e ↦ rw e c.saturating_sub.ensures | inr e ↦ rw e c.saturating_sub.ensures ]

pub returns-in-Quads : goal.returns-in-Quads
unfolding primitive_count
returns-in-Quads c = rw c.in-Quads.is
