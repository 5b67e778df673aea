use mathlib.Core.Path.{◌∙◌, ap}
use mathlib.Core.Bool.{Bool}
use Rattle.paths.specs.declared.intersect.Ray.{Ray}
use Rattle.paths.specs.Intersect.{hits}
use Rattle.paths.specs.Pass.{next_answer, step_at}
use Rattle.paths.proofs.pass.verdict.Goals as goal

pub returns : goal.returns
unfolding step_at
returns c =
    c.answer_after.ensures ∙ ap (λ (b : Bool). next_answer b c.args.number c.args.answer) (c.hits.ensures ∙ ap (λ (x : Ray). hits x c.args.tri) c.ray_at.ensures)
