use native.Mathlib.Omega.{arith}
use Rattle.primitives.proofs.Counting.{fan_first, fan_next}
use Rattle.primitives.proofs.places.fan_place.Goals as goal

pub returns-then-i-eq0 : goal.returns-then-i-eq0
returns-then-i-eq0 c = fan_first _ _ c.if-i-eq0.true

pub returns : goal.returns
returns c = fan_next _ _ c.requires.0 (omega arith)
