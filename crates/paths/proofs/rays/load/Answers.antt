use mathlib.Core.Path.{refl, ◌∙◌}
use native.Mathlib.Omega.{arith}
use Rattle.lists.proofs.Putting.{Split}
use Rattle.lists.proofs.Chunked.{chunked_none, chunked_here, chunked_more}
use Rattle.paths.proofs.Loading.{loading_none, loading_more, point_here}
use Rattle.paths.proofs.rays.load.Goals as goal

pub loop-j-init : goal.loop-j-init
loop-j-init c =
    rw (c.into_iter-j-iterator.ensures.into_iter_gives, c.enumerate-j-items.ensures.source, c.enumerate-j-items.ensures.count, c.chunks_exact.ensures.size, c.chunks_exact.ensures.rest)
    (refl, chunked_none, loading_none)

pub loop-j-preserved : goal.loop-j-preserved
loop-j-preserved c =
    let I = c.loop-j.invariant in
    let S = c.in-Some.ensures.steps in
    let m = S.0.1.1 ∙ I.0 in
    let d : Split _ _ _ = record { is = S.0.1.0 } in
    rw S.2 (
      S.0.0 ∙ I.0,
      chunked_more _ I.1 d m,
      loading_more I.2 (chunked_here _ I.1 d m (omega arith)) c.requires c.told-rays
          (c.point_at-from.ensures ∙ point_here _ I.1 d m 0 _ (omega arith) (omega arith)) (c.point_at-to.ensures ∙ point_here _ I.1 d m 1 _ (omega arith) (omega arith))
          c.sub.ensures (rw S.1 at c.put_spot.ensures) (rw S.1 at c.put_spot-in-loop-j.ensures),
    )
