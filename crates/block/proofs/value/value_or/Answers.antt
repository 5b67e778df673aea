use mathlib.Core.Path.{refl}
use Rattle.block.proofs.ValueLaws.{value_there, value_past, value_missing}
use Rattle.block.proofs.value.value_or.Goals as goal

pub returns-in_default : goal.returns-in_default
returns-in_default g c = value_missing _ _ _ _ _ c.in_default.is

pub returns-then-k-values : goal.returns-then-k-values
returns-then-k-values g c =
    value_there _ _ _ _ _ _ _ _ c.in-Some.is refl (rw (← c.bytes.ensures.size) c.if-k-values.true) c.read.ensures

pub returns : goal.returns
returns g c = value_past _ _ _ _ _ _ _ c.in-Some.is refl (rw (← c.bytes.ensures.size) c.if-k-values.false)
