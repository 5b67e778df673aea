use mathlib.Core.Logic.{inl, inr}
use borrow.Author.Tests.{lt-ltb, le-ltb}
use Rattle.text.proofs.Spelling.{put_none, put_last, put_more}
use Rattle.text.proofs.writer.Writer.+put_digits.Goals.{then-not-n-base, else-not-n-base}
use Rattle.text.proofs.writer.Writer.+put_digits.Goals as goal

pub returns-then-k-eq0 : goal.returns-then-k-eq0
returns-then-k-eq0 t c = put_none _ _ _ _ c.if-k-eq0.true

pub returns : goal.returns
returns t c =
    elim c.if-not-n-base.branch [
      | then-not-n-base w ↦ put_more _ _ _ _ (elim w.if-not-n-base.either [ inl p ↦ simp (p.0, le-ltb _ _ p.1) | inr q ↦ simp q ]) c.if-k-eq0.false w.put_digits.ensures (rw (c.digit_byte.ensures, w.self-is) at c.put_byte.ensures)
      | else-not-n-base w ↦ put_last _ _ _ _ (simp (w.if-not-n-base.false.0, lt-ltb _ _ w.if-not-n-base.false.1)) c.if-k-eq0.false (rw (c.digit_byte.ensures, w.self-is) at c.put_byte.ensures)
    ]
