use mathlib.Core.Logic.{inl, inr}
use Rattle.primitives.proofs.Meeting.{rest_quads, fan_part, strip_part}
use Rattle.primitives.proofs.stretches.stretch_at.Goals as goal

pub returns-in-Triangles : goal.returns-in-Triangles
returns-in-Triangles c = elim c.in-Triangles.is [ inl e ↦ rw e c.rest_at.ensures | inr e ↦ rw e (rest_quads c.rest_at.ensures) ]

pub returns-in-Fans : goal.returns-in-Fans
returns-in-Fans c = elim c.in-Fans.is [ inl e ↦ rw e (fan_part c.run_at.ensures) | inr e ↦ rw e (strip_part c.run_at.ensures) ]
