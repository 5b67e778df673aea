use mathlib.Core.Path.{◌≡◌, sym, ◌∙◌}
use Prim.Native.Nat.{◌+◌}
use native.Mathlib.Nat.{add-zero}
use native.Mathlib.Omega.{arith}
use Rattle.polygon.proofs.Lists.{fan_start, fan_write, fan_written}
use Rattle.polygon.proofs.ears.put_fan.Goals as goal

pub loop-i-init : goal.loop-i-init
loop-i-init c = rw (add-zero, fan_start)

pub loop-i-preserved : goal.loop-i-preserved
loop-i-preserved c =
    let e : c.args.t + (c.loop-i.i + 1) ≡ c.args.t + c.loop-i.i + 1 = omega arith in
    rw (e, c.put_tri.ensures, c.get-a.ensures, c.get.ensures, c.get-in-loop-i.ensures) (fan_write c.args.rev c.loop-i.out (c.args.t + c.loop-i.i) c.args.idx.now c.loop-i.i (omega arith) ∙ c.loop-i.invariant)

pub returns : goal.returns
returns c = sym (fan_written c.args.rev c.loop-i.out (c.args.t + c.loop-i.i) c.args.idx.now c.loop-i.i (omega arith)) ∙ c.loop-i.invariant
