use Rattle.bits.proofs.Entries.{entries_length}
use Rattle.bits.specs.Bits.{entries}
use Rattle.lists.proofs.Numbers.{cell_turned}
use Rattle.lists.proofs.Pieces.{pieces_none, pieces_more, pieces_all}
use Rattle.lists.specs.Parts.{spliced}
use Rattle.mesh.specs.Grid.{x_dimension}
use Rattle.mesh.specs.Words.{words3}
use Rattle.grid.proofs.Coords.{point_put, row_is}
use mathlib.Core.Path.{refl, ap, ◌∙◌}
use Prim.Native.Nat.{◌+◌, ◌*◌, ◌<◌}
use lib.ListN.{length}
use native.Mathlib.Omega.{arith}
use Rattle.grid.proofs.sided.GridBlock.put_point_row.Goals as goal

pub loop-i-init : goal.loop-i-init
loop-i-init c = pieces_none

pub entry-requires : goal.entry-requires
entry-requires c =
    let e = c.x_dimension-xd.ensures in
    let h : c.loop-i.i < x_dimension c.args.self.now.header = omega (arith, c.loop-i-test.true, e) in
    let b : c.loop-i.i + c.args.j * x_dimension c.args.self.now.header < length (entries c.args.heights.now) = omega (arith, cell_turned _ _ _ _ h c.requires.0, c.requires.1) in
    omega (arith, rw (← e) at b, entries_length c.args.heights.now)

pub loop-i-preserved : goal.loop-i-preserved
loop-i-preserved c =
    let e = c.x_dimension-xd.ensures in
    let h : c.loop-i.i < x_dimension c.args.self.now.header = omega (arith, c.loop-i-test.true, e) in
    pieces_more 3 (λ t. refl) c.requires.2 c.loop-i.invariant h refl (ap words3 (point_put _ _ _ _ _ h c.step_word.ensures (rw e at c.entry.ensures) c.step_word-z.ensures)) c.put_words3.ensures

pub returns : goal.returns
returns c = pieces_all c.loop-i.invariant (omega (arith, c.loop-i-test.false, c.x_dimension-xd.ensures)) ∙ ap (spliced c.args.work.now c.args.k) (row_is _ _ _ _)
