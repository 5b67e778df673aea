use mathlib.Core.Path.{refl}
use native.Mathlib.Omega.{arith}
use Rattle.answer.proofs.Said.{answer_few, said_printed}
use borrow.Author.Rules.{rules}
use Rattle.answer.proofs.texts.block_text.Goals as goal

pub put_mesh-requires : goal.put_mesh-requires
put_mesh-requires c =
    let f = answer_few _ _ _ c.lend_and_convert-left.ensures c.in-Ok.is in (omega (arith, f.0), omega (arith, f.1))

pub returns-in-Err : goal.returns-in-Err
returns-in-Err c =
    said_printed _ _ _ _ _ _ _ c.lend_and_convert-left.ensures c.in-Err.is refl (rw c.put_refusal.ensures.1 at c.put_refusal.ensures.2)

pub returns-in-Ok : goal.returns-in-Ok
returns-in-Ok c =
    said_printed _ _ _ _ _ _ _ c.lend_and_convert-left.ensures c.in-Ok.is c.parts_in-parts.ensures c.put_mesh.ensures
