use Prim.Native.Nat.{◌+◌, ◌≤◌}
use mathlib.Core.Path.{◌≡◌}
use mathlib.Core.Bool.{false}
use Rattle.bits.specs.Bits.{entries}
use Rattle.block.specs.Runs.{runs, sum_over}
use Rattle.block.specs.Walk.{rest}
use Rattle.block.proofs.Walks.{Walks}
use Rattle.mesh.specs.Sizes.{named, lines_after}
use Rattle.lines.proofs.totals.line_totals.Given as goal

abbrev pub invariant-loop-run : goal.invariant-loop-run
invariant-loop-run l =
    let w = l.run-iterator in record {
      walk : Walks l.list w.list.now w.start;
      corners_few : l.corners ≤ w.start;
      lines_few : l.lines ≤ w.start;
      corners_left : l.corners + sum_over (named l.points) (rest w) ≡ sum_over (named l.points) (runs (entries l.list));
      lines_left : l.lines + sum_over (lines_after l.points false) (rest w) ≡ sum_over (lines_after l.points false) (runs (entries l.list));
    }
