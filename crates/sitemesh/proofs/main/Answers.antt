use Rattle.std.proofs.Common.{arith}
use Rattle.answer.proofs.Fitting.{whole_text}
use Rattle.sitemesh.proofs.main.Goals as goal

pub slice_bounds-out-end : goal.slice_bounds-out-end
slice_bounds-out-end c = (whole_text _ _ _ _ c.answer_text-k.ensures (omega arith)).inside

pub slice_bounds-write_all-end : goal.slice_bounds-write_all-end
slice_bounds-write_all-end c = (whole_text _ _ _ _ c.answer_text-k.ensures (omega arith)).long
