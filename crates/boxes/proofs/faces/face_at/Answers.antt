use mathlib.Core.Path.{◌≡◌}
use native.Mathlib.Omega.{arith}
use lib.Ieee.{neg, of_bits}
use Rattle.boxes.specs.Box.{face_at}
use Rattle.boxes.proofs.faces.face_at.Goals as goal

pub returns-in-0 : goal.returns-in-0
unfolding face_at neg of_bits
returns-in-0 c = rw c.in-0.is c.face_of.ensures

pub returns-in-1 : goal.returns-in-1
unfolding face_at neg of_bits
returns-in-1 c = rw c.in-1.is c.face_of-in-1.ensures

pub returns-in-2 : goal.returns-in-2
unfolding face_at neg of_bits
returns-in-2 c = rw c.in-2.is c.face_of-in-2.ensures

pub returns-in-3 : goal.returns-in-3
unfolding face_at neg of_bits
returns-in-3 c = rw c.in-3.is c.face_of-in-3.ensures

pub returns-in-4 : goal.returns-in-4
unfolding face_at neg of_bits
returns-in-4 c = rw c.in-4.is c.face_of-in-4.ensures

pub returns-in_default : goal.returns-in_default
unfolding face_at neg of_bits
returns-in_default c = let e : c.args.k ≡ 5 = omega arith in rw e c.face_of-in_default.ensures
