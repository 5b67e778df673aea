use Rattle.extrusion.proofs.Counting.{start_more, start_none, start_rises}
use Rattle.lists.proofs.Pieces.{singles_none, singles_more}
use mathlib.Core.Path.{◌∙◌}
use Prim.Native.Nat.{◌-◌, ◌*◌}
use native.Mathlib.Omega.{arith}
use Rattle.extrusion.proofs.faces.Faces.put_starts.Goals as goal

pub loop-j-init : goal.loop-j-init
loop-j-init c = (start_none _ _, singles_none)

pub narrow-requires : goal.narrow-requires
narrow-requires c =
    omega (arith, c.loop-j.invariant.0, start_rises ((c.args.self.now.n - 1) * (c.args.self.now.m - 1)) c.args.self.now.cap c.loop-j.j c.args.faces (omega arith), c.requires.1)

pub loop-j-preserved : goal.loop-j-preserved
loop-j-preserved c = (
  start_more _ _ _ _ _ c.loop-j.invariant.0 c.size_at-c.ensures,
  singles_more _ c.requires.2 c.loop-j.invariant.1 c.loop-j-test.true (c.narrow.ensures ∙ c.loop-j.invariant.0),
)
