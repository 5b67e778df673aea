use mathlib.Core.Path.{refl}
use lib.Ieee.{neg, of_bits}
use Rattle.parts.specs.Cap.{cap_normal}
use Rattle.parts.proofs.cap.cap_normal.Goals as goal

pub returns-then-top : goal.returns-then-top
unfolding cap_normal
returns-then-top c = rw c.if-top.true

pub returns : goal.returns
unfolding cap_normal neg of_bits
returns c = rw c.if-top.false refl
