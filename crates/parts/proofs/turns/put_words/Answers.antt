use native.Mathlib.Omega.{arith}
use Rattle.lists.proofs.Pieces.{uneven_none}
use Rattle.parts.proofs.Turning.{row_room, row_more}
use Rattle.parts.proofs.turns.put_words.Goals as goal

pub loop-i-init : goal.loop-i-init
loop-i-init g c = λ f G. uneven_none

pub overflow_add-next : goal.overflow_add-next
overflow_add-next g c = omega (arith, row_room c.requires.given.1 (c.loop-i.invariant c.requires.given.0 c.requires.given.1) c.loop-i-test.true c.row-r.ensures c.as_slice-r.ensures, c.loop-i.auto.words)

pub put_all-requires : goal.put_all-requires
put_all-requires g c = row_room c.requires.given.1 (c.loop-i.invariant c.requires.given.0 c.requires.given.1) c.loop-i-test.true c.row-r.ensures c.as_slice-r.ensures

pub loop-i-preserved : goal.loop-i-preserved
loop-i-preserved g c = λ f G. row_more G (c.loop-i.invariant f G) c.loop-i-test.true c.row-r.ensures c.as_slice-r.ensures c.put_all.ensures
