use mathlib.Core.Path.{ap, ◌∙◌}
use borrow.Author.Tests.{eq-eqb, ne_eqb}
use Rattle.polygon.specs.Ears.{point_in_tri}
use Rattle.polygon.specs.Memo.{hits, spot_of}
use Rattle.polygon.specs.declared.memo.Dot.{Dot}
use Rattle.polygon.proofs.memo.Field.is_hit.Goals as goal

pub returns-then-get-eq1 : goal.returns-then-get-eq1
unfolding hits
returns-then-get-eq1 c =
    simp (← c.get.ensures, eq-eqb _ _ c.if-get-eq1.true) (c.in_tri.ensures ∙ ap (λ (d : Dot). point_in_tri (spot_of d) (spot_of c.args.self.now.t.a) (spot_of c.args.self.now.t.b) (spot_of c.args.self.now.t.c)) c.dot_at.ensures)

pub returns-else-get-eq1 : goal.returns-else-get-eq1
unfolding hits
returns-else-get-eq1 c = simp (← c.get.ensures, ne_eqb _ _ c.if-get-eq1.false)
