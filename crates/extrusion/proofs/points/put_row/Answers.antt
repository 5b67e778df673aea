use Rattle.lists.proofs.Pieces.{pieces_all, pieces_more, pieces_none}
use Rattle.lists.proofs.Chunked.{chunked_none, each_more, each_here, each_all}
use Rattle.extrusion.proofs.Values.{at2_is}
use Rattle.extrusion.proofs.Walking.{row_is, spot_is, spot_length}
use Rattle.lists.specs.Parts.{spliced}
use mathlib.Core.Path.{◌∙◌, refl, ap}
use native.Mathlib.Omega.{arith}
use Rattle.extrusion.proofs.points.put_row.Goals as goal

pub loop-j-init : goal.loop-j-init
loop-j-init c = rw c.iter-p-items.ensures (chunked_none, pieces_none)

pub overflow_mul-j : goal.overflow_mul-j
overflow_mul-j c = omega (arith, c.requires, (each_here c.loop-j.invariant.0 c.in-Some.ensures.steps).0)

pub overflow_add-k : goal.overflow_add-k
overflow_add-k c = omega (arith, c.requires, (each_here c.loop-j.invariant.0 c.in-Some.ensures.steps).0)

pub put_vector-requires : goal.put_vector-requires
put_vector-requires c = omega (arith, c.requires, (each_here c.loop-j.invariant.0 c.in-Some.ensures.steps).0, c.loop-j.invariant.1.size)

pub overflow_step-j : goal.overflow_step-j
overflow_step-j c = omega (arith, c.requires, (each_here c.loop-j.invariant.0 c.in-Some.ensures.steps).0)

pub loop-j-preserved : goal.loop-j-preserved
loop-j-preserved c =
    let I = c.loop-j.invariant in
    let e = c.in-Some.ensures.steps in
    let h = each_here I.0 e in (
      each_more I.0 e,
      pieces_more 3 (spot_length _ _ _ _ _) (omega (arith, c.requires)) I.1 h.0 refl
          (spot_is _ _ _ _ _ _ _ _ _ (at2_is _ _ _ h.1) c.local.ensures c.placed.ensures) c.put_vector.ensures,
    )

pub returns : goal.returns
returns c =
    let I = c.loop-j.invariant in
    pieces_all I.1 (omega (arith, each_all I.0 c.in-None.ensures.steps.0)) ∙ ap (spliced c.args.work.now c.args.k) (row_is _ _ _ _ c.args.section.now _ refl)
