use mathlib.Core.Bool.{false}
use native.Mathlib.Omega.{arith}
use Rattle.bits.proofs.Entries.{entries_length}
use Rattle.block.proofs.Walks.{walks_on, sum_first, sum_end}
use Rattle.mesh.specs.Sizes.{named, lines_after}
use Rattle.lines.proofs.totals.line_totals.Goals as goal

pub loop-run-preserved : goal.loop-run-preserved
loop-run-preserved c =
    let G = c.in-Some.ensures.steps in
    let l = entries_length c.in-Some.run'.now in
    record {
      walk = walks_on c.loop-run.invariant.walk G.passes G.part.within;
      corners_few = omega arith;
      lines_few = omega arith;
      corners_left = omega (arith, sum_first (named c.args.points) G.first);
      lines_left = omega (arith, sum_first (lines_after c.args.points false) G.first);
    }

pub returns : goal.returns
returns c =
    let I = c.loop-run.invariant in
    let e = c.in-None.ensures.steps in (sum_end _ e I.corners_left, sum_end _ e I.lines_left)
