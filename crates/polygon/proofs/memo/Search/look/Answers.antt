use Rattle.polygon.proofs.Tables.{look_other, look_past, look_there}
use Rattle.polygon.proofs.memo.Search.look.Goals as goal
use Rattle.polygon.proofs.memo.Search.look.Goals.{else-get-q-via-then-get-q+else-get-q-2, else-get-q-via-else-get-q}

pub returns-then-get-q-2 : goal.returns-then-get-q-2
returns-then-get-q-2 c =
    look_there _ _ _ _ _ _ _ _ c.get.ensures c.get-then-get-q.ensures c.get-then-get-q-2.ensures c.if-get-q.true c.if-get-q-2.true c.finding_of.ensures

pub returns : goal.returns
returns c =
    elim c.else-get-q.branch [
      | else-get-q-via-then-get-q+else-get-q-2 w ↦ look_past _ _ _ _ _ _ c.get.ensures w.get-then-get-q.ensures w.if-get-q.true w.if-get-q-2.false
      | else-get-q-via-else-get-q w ↦ look_other _ _ _ _ _ c.get.ensures w.if-get-q.false
    ]
