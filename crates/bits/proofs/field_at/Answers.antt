use mathlib.Core.Path.{◌≡◌}
use borrow.Author.Rules.{rules}
use native.Mathlib.Omega.{arith}
use Rattle.bits.specs.Bits.{field}
use Rattle.bits.proofs.Fields.{field_room, field_more}
use Rattle.bits.proofs.field_at.Goals as goal

pub loop-k-init : goal.loop-k-init
unfolding field
loop-k-init c = search rules

pub overflow_add-i : goal.overflow_add-i
overflow_add-i c = omega arith

pub overflow_sub-s : goal.overflow_sub-s
overflow_sub-s c = omega arith

pub overflow_mul-v : goal.overflow_mul-v
overflow_mul-v c = omega (arith, field_room _ _ _ _ c.loop-k.invariant.1 (omega arith))

pub overflow_cast-s : goal.overflow_cast-s
overflow_cast-s c = omega arith

pub overflow_shr-get_or : goal.overflow_shr-get_or
overflow_shr-get_or c = omega arith

pub overflow_add-v : goal.overflow_add-v
overflow_add-v c = omega (arith, field_room _ _ _ _ c.loop-k.invariant.1 (omega arith))

pub overflow_step-k : goal.overflow_step-k
overflow_step-k c = omega arith

pub loop-k-smaller : goal.loop-k-smaller
loop-k-smaller c = omega arith

pub loop-k-preserved : goal.loop-k-preserved
loop-k-preserved c = (omega arith, field_more _ _ _ _ _ c.loop-k.invariant.1 (rw c.get_or.ensures at c.from.ensures))

pub returns : goal.returns
returns c = let h : c.loop-k.k ≡ c.args.width = omega arith in rw (← h) c.loop-k.invariant.1
