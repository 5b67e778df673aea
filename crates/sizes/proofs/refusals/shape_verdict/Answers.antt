use mathlib.Core.Path.{sym, ◌∙◌}
use Rattle.sizes.proofs.Decided.{row_shape, row_points, row_corners, row_none, refuse, pass}
use Rattle.sizes.proofs.refusals.shape_verdict.Goals as goal
use Rattle.sizes.proofs.refusals.shape_verdict.Goals.{then-limit-s-via-then-limit-s, then-limit-s-via-else-limit-s+then-limit-s-2}

pub returns-then-is_no_shape : goal.returns-then-is_no_shape
returns-then-is_no_shape c = refuse _ _ _ _ (row_shape _ _ (sym c.is_no_shape.ensures ∙ c.if-is_no_shape.true))

pub returns-then-limit-s : goal.returns-then-limit-s
returns-then-limit-s c =
    elim c.then-limit-s.branch [
      | then-limit-s-via-then-limit-s w ↦
          refuse _ _ _ _ (row_points _ _ (sym c.is_no_shape.ensures ∙ c.if-is_no_shape.false) _ c.sizes_of-s.ensures _ (c.wide-limit.ensures ∙ c.limit_of.ensures) w.if-limit-s.true)
      | then-limit-s-via-else-limit-s+then-limit-s-2 w ↦
          refuse _ _ _ _ (row_corners _ _ (sym c.is_no_shape.ensures ∙ c.if-is_no_shape.false) _ c.sizes_of-s.ensures _ (c.wide-limit.ensures ∙ c.limit_of.ensures) w.if-limit-s.false w.if-limit-s-2.true)
    ]

pub returns : goal.returns
returns c =
    pass _ _ _ _ (sym (row_none _ _ (sym c.is_no_shape.ensures ∙ c.if-is_no_shape.false) _ c.sizes_of-s.ensures _ (c.wide-limit.ensures ∙ c.limit_of.ensures) c.if-limit-s.false c.if-limit-s-2.false)) c.sizes_of-s.ensures
