use native.Mathlib.Omega.{arith}
use Rattle.vertices.proofs.Turns.{slices_same, slices_then}
use Rattle.corners.proofs.Corners.{turned_start, turned_laid, turned_ready, turned_next, turned_all}
use borrow.Author.Rules.{rules}
use Rattle.corners.proofs.whole.all_vertices.Goals as goal

pub loop-i-init : goal.loop-i-init
loop-i-init c = (slices_same, turned_start)

pub invariant_of-corner : goal.invariant_of-corner
invariant_of-corner c =
    let U = c.loop-i.invariant.1 _ c.fill.ensures c.requires in record { laid = turned_laid U; there = c.loop-i-test.true }

pub number_corner-n-requires : goal.number_corner-n-requires
number_corner-n-requires c = let U = c.loop-i.invariant.1 _ c.fill.ensures c.requires in (turned_ready U c.loop-i-test.true _ (search rules), turned_laid U, c.loop-i-test.true)

pub loop-i-preserved : goal.loop-i-preserved
loop-i-preserved c =
    let I = c.loop-i.invariant in
    (slices_then I.0 c.number_corner-n.ensures.same, λ l F R. turned_next (I.1 l F R) c.loop-i-test.true c.number_corner-n.ensures.numbered c.key-key.ensures)

pub returns-clause-cornered : goal.returns-clause-cornered
returns-clause-cornered c = turned_all (c.loop-i.invariant.1 _ c.fill.ensures c.requires) (omega (arith, c.loop-i-test.false))
