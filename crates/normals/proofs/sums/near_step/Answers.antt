use mathlib.Core.Path.{refl}
use Rattle.normals.proofs.Arms.{near_own, near_far, near_yes}
use Rattle.normals.proofs.sums.near_step.Goals as goal

pub returns-then-g-own-clause-total : goal.returns-then-g-own-clause-total
returns-then-g-own-clause-total c = near_own _ _ _ _ _ _ _ c.if-g-own.true

pub returns-then-g-own-clause-alone : goal.returns-then-g-own-clause-alone
returns-then-g-own-clause-alone c = λ a. (a, refl)

pub returns-then-dot-bound-clause-total : goal.returns-then-dot-bound-clause-total
returns-then-dot-bound-clause-total c = near_yes _ _ _ _ _ _ _ _ c.get3-v.ensures _ c.dot.ensures _ _ c.if-g-own.false c.if-dot-bound.true c.get3.ensures c.add.ensures

pub returns-clause-total : goal.returns-clause-total
returns-clause-total c = near_far _ _ _ _ _ _ _ _ c.get3-v.ensures _ c.dot.ensures c.if-dot-bound.false

pub returns-clause-alone : goal.returns-clause-alone
returns-clause-alone c = λ a. (a, refl)
