use mathlib.Core.Path.{sym, ◌∙◌}
use native.Mathlib.Omega.{arith}
use Rattle.mesh.specs.Words.{floats}
use Rattle.mending.proofs.Fixing.{len_by, words_past, mends_four}
use Rattle.mending.proofs.NearOne.{near_kept}
use Rattle.mending.proofs.mend.Lent.mend_four.Goals as goal

pub returns-then-is_near_one-4 : goal.returns-then-is_near_one-4
returns-then-is_near_one-4 c =
    let a = near_kept _ _ _ _ _ _ _ (omega (arith, c.requires.0, c.requires.1)) c.words_at-a.ensures c.square_of-p.ensures (sym c.is_near_one.ensures ∙ c.if-is_near_one.true) in
    let b = near_kept _ _ _ _ _ _ _ (omega (arith, c.requires.0, c.requires.1)) c.words_at-b.ensures c.square_of-q.ensures (sym c.is_near_one-then-is_near_one.ensures ∙ c.if-is_near_one-2.true) in
    let d = near_kept _ _ _ _ _ _ _ (omega (arith, c.requires.0, c.requires.1)) c.words_at-c.ensures c.square_of-r.ensures (sym c.is_near_one-then-is_near_one-2.ensures ∙ c.if-is_near_one-3.true) in
    let e = near_kept _ _ _ _ _ _ _ (omega (arith, c.requires.0, c.requires.1)) c.words_at-d.ensures c.square_of-s.ensures (sym c.is_near_one-then-is_near_one-3.ensures ∙ c.if-is_near_one-4.true) in
    (mends_four _ _ _ _ (omega (arith, c.requires.0, c.requires.1)) a b d e, c.requires.2)

pub mend_by_length-made-requires : goal.mend_by_length-made-requires
mend_by_length-made-requires c =
    (omega arith, c.requires.1, c.requires.2, c.words_at-a.ensures, len_by (floats c.words_at-a.result) _ _ c.square_of-p.ensures c.roots-l.ensures.0.is)

pub mend_by_length-made-requires-2 : goal.mend_by_length-made-requires-2
mend_by_length-made-requires-2 c =
    let b = c.mend_by_length-made.auto in
    let w = words_past _ _ _ _ _ _ (omega (arith, c.requires.0, c.requires.1)) (omega arith) c.mend_by_length-made.ensures.0 in (
      omega arith,
      (omega (arith, c.requires.1, b.normals), omega (arith, c.requires.1, b.table)),
      c.mend_by_length-made.ensures.1,
      c.words_at-b.ensures ∙ sym w,
      len_by (floats c.words_at-b.result) _ _ c.square_of-q.ensures c.roots-l.ensures.1.is,
    )

pub mend_by_length-made-requires-3 : goal.mend_by_length-made-requires-3
mend_by_length-made-requires-3 c =
    let a = c.mend_by_length-made.auto in
    let b = c.mend_by_length-made-2.auto in
    let v = words_past _ _ _ _ _ _ (omega (arith, c.requires.0, c.requires.1)) (omega arith) c.mend_by_length-made.ensures.0 in
    let w = words_past _ _ _ _ _ _ (omega (arith, c.requires.0, c.requires.1, a.normals)) (omega arith) c.mend_by_length-made-2.ensures.0 in (
      omega arith,
      (omega (arith, c.requires.1, a.normals, b.normals), omega (arith, c.requires.1, a.table, b.table)),
      c.mend_by_length-made-2.ensures.1,
      c.words_at-c.ensures ∙ sym (w ∙ v),
      len_by (floats c.words_at-c.result) _ _ c.square_of-r.ensures c.roots-l.ensures.2.is,
    )

pub mend_by_length-requires : goal.mend_by_length-requires
mend_by_length-requires c =
    let a = c.mend_by_length-made.auto in
    let b = c.mend_by_length-made-2.auto in
    let d = c.mend_by_length-made-3.auto in
    let u = words_past _ _ _ _ _ _ (omega (arith, c.requires.0, c.requires.1)) (omega arith) c.mend_by_length-made.ensures.0 in
    let v = words_past _ _ _ _ _ _ (omega (arith, c.requires.0, c.requires.1, a.normals)) (omega arith) c.mend_by_length-made-2.ensures.0 in
    let w = words_past _ _ _ _ _ _ (omega (arith, c.requires.0, c.requires.1, a.normals, b.normals)) (omega arith) c.mend_by_length-made-3.ensures.0 in (
      omega arith,
      (omega (arith, c.requires.1, a.normals, b.normals, d.normals), omega (arith, c.requires.1, a.table, b.table, d.table)),
      c.mend_by_length-made-3.ensures.1,
      c.words_at-d.ensures ∙ sym (w ∙ v ∙ u),
      len_by (floats c.words_at-d.result) _ _ c.square_of-s.ensures c.roots-l.ensures.3.is,
    )

pub returns : goal.returns
returns c =
    (mends_four _ _ _ _ (omega (arith, c.requires.0, c.requires.1)) c.mend_by_length-made.ensures.0 c.mend_by_length-made-2.ensures.0 c.mend_by_length-made-3.ensures.0 c.mend_by_length.ensures.0, c.mend_by_length.ensures.1)
