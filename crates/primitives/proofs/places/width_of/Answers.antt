use mathlib.Core.Logic.{inl, inr}
use Rattle.primitives.specs.Kept.{width_of}
use Rattle.primitives.proofs.places.width_of.Goals as goal

pub returns-in-Triangles : goal.returns-in-Triangles
unfolding width_of
returns-in-Triangles c = elim c.in-Triangles.is [ inl e ↦ rw e | inr (inl e) ↦ rw e | inr (inr e) ↦ rw e ]

pub returns-in-Quads : goal.returns-in-Quads
unfolding width_of
returns-in-Quads c = rw c.in-Quads.is
