use Prim.Native.Nat.{◌-◌}
use Rattle.extrusion.proofs.Lengths.{length_start, length_step, param_is, params_all}
use Rattle.lists.proofs.Pieces.{singles_none, singles_more}
use mathlib.Core.Path.{◌≡◌}
use native.Mathlib.Omega.{arith}
use Rattle.extrusion.proofs.arcs.put_params.Goals as goal

pub loop-j-init : goal.loop-j-init
loop-j-init g c = λ value same. (length_start value, singles_none)

pub loop-j-preserved : goal.loop-j-preserved
loop-j-preserved g c = λ value same.
    let P = c.loop-j.invariant value same in (
      length_step value _ _ _ _ P.0 (same _ _ (omega arith) c.step.ensures) c.counted-x.ensures,
      singles_more _ c.requires.room P.1 (omega arith) (param_is _ _ _ _ _ _ (c.arc_total-t.ensures value same) P.0 c.share.ensures),
    )

pub returns : goal.returns
returns g c = λ value same.
    let P = c.loop-j.invariant value same in
    let e : c.loop-j.j ≡ c.args.n - 1 = omega arith in
    let x = rw e at P.0 in
    let put = rw e at P.1 in
    params_all _ _ _ _ _ _ (singles_more _ c.requires.room put (omega arith) (param_is _ _ _ _ _ _ (c.arc_total-t.ensures value same) x c.share-2.ensures)) (omega arith)
