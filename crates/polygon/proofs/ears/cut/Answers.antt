use mathlib.Core.List.{◌∷◌, []}
use mathlib.Core.Path.{ap, ◌∙◌}
use Prim.Native.Nat.{◌*◌}
use lib.Seq.{sets}
use Rattle.polygon.specs.Ears.{Tri, flat, turn}
use Rattle.polygon.proofs.Turns.{gone_by}
use Rattle.polygon.proofs.ears.cut.Goals as goal

pub returns : goal.returns
returns c = (
  gone_by _ _ _ _ _ _ _ c.requires.1 (ap (λ (q : Tri). q.b) c.corner_at-q.ensures) c.clear_flag.ensures.0 c.take_out.ensures c.take_out.auto.idx,
  c.clear_flag.ensures.1,
  c.clear_flag.ensures.2,
  c.put_tri.ensures ∙ ap (λ (q : Tri). sets c.args.out.now (c.args.t * 3) (flat (turn c.args.rev q ∷ []))) c.corner_at-q.ensures,
)
