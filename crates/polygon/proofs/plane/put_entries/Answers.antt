use mathlib.Core.Path.{sym, ◌∙◌}
use Rattle.math.specs.declared.vector.V3.{V3}
use Rattle.polygon.specs.Plane.{entry}
use Rattle.polygon.proofs.Projection.{projected_go, projected_end}
use Rattle.polygon.proofs.plane.put_entries.Goals as goal

pub loop-i-preserved : goal.loop-i-preserved
loop-i-preserved c =
    rw (c.put_pair.ensures, c.entry_at-in-loop-i.ensures, c.entry_at.ensures) (projected_go _ _ _ _ _ c.loop-i-test.true ∙ c.loop-i.invariant)

pub returns : goal.returns
returns c =
    sym (projected_end (λ (p : V3). (entry p c.args.u, entry p c.args.v)) c.args.points.now _ _ c.loop-i.i c.loop-i-test.false) ∙ c.loop-i.invariant
