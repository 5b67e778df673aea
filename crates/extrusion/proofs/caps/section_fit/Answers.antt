use Prim.Native.Nat.{◌+◌}
use Rattle.block.specs.declared.texture.Pair.{Pair}
use Rattle.lists.proofs.Chunked.{chunked_none, each_more, each_here, each_all}
use Rattle.extrusion.proofs.Values.{at2_is}
use Rattle.extrusion.proofs.Fitting.{fit_is, span_more}
use mathlib.Core.Path.{ap, refl}
use Rattle.mesh.specs.Texture.{span_of}
use Rattle.extrusion.proofs.caps.section_fit.Goals as goal

pub loop-p-init : goal.loop-p-init
unfolding span_of
loop-p-init c = rw (c.into_iter-p-iterator.ensures.into_iter_gives, c.iter-p-items.ensures) (0, chunked_none, refl, refl)

pub loop-p-preserved : goal.loop-p-preserved
loop-p-preserved c =
    let I = c.loop-p.invariant in
    let e = c.in-Some.ensures.steps in
    let q = at2_is _ I.0 _ (each_here I.1 e).1 in (
      I.0 + 1,
      each_more I.1 e,
      span_more _ I.0 _ _ _ I.2 (ap (λ (p : Pair). p.s) q) c.widen-a.ensures,
      span_more _ I.0 _ _ _ I.3 (ap (λ (p : Pair). p.t) q) c.widen-b.ensures,
    )

pub returns : goal.returns
returns c =
    let I = c.loop-p.invariant in
    fit_is _ I.0 _ _ _ _ (each_all I.1 c.in-None.ensures.steps.0) I.2 I.3 c.max.ensures c.divisor_of.ensures
