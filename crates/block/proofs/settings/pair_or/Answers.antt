use mathlib.Core.Path.{◌≡◌, sym, ◌∙◌}
use mathlib.Core.Bool.{true}
use lib.Ieee.Scale.{finite}
use Rattle.block.specs.Settings.{pair_or}
use Rattle.block.proofs.settings.pair_or.Goals as goal
use Rattle.block.proofs.settings.pair_or.Goals.{else-is_finite-via-then-is_finite+else-is_finite-2, else-is_finite-via-else-is_finite}

pub returns-then-is_finite-2 : goal.returns-then-is_finite-2
unfolding pair_or
returns-then-is_finite-2 c =
    let s : finite c.args.p.s ≡ true = sym c.is_finite.ensures ∙ c.if-is_finite.true in
    let t : finite c.args.p.t ≡ true = sym c.is_finite-then-is_finite.ensures ∙ c.if-is_finite-2.true in rw (s, t)

pub returns-else-is_finite : goal.returns-else-is_finite
unfolding pair_or
returns-else-is_finite c =
    elim c.else-is_finite.branch [
      | else-is_finite-via-then-is_finite+else-is_finite-2 w ↦ rw (sym c.is_finite.ensures ∙ w.if-is_finite.true, sym w.is_finite-then-is_finite.ensures ∙ w.if-is_finite-2.false)
      | else-is_finite-via-else-is_finite w ↦ rw (sym c.is_finite.ensures ∙ w.if-is_finite.false)
    ]
