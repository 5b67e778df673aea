use mathlib.Core.Path.{refl, ◌∙◌}
use native.Mathlib.Omega.{arith}
use lib.Dec.{eqb}
use lib.ListN.{length}
use Rattle.std.proofs.Common.{rules}
use Rattle.lists.proofs.Putting.{Split}
use Rattle.lists.proofs.Chunked.{chunked_none, chunked_all, chunked_here, chunked_more}
use Rattle.paths.specs.Pass.{hit_count}
use Rattle.lists.proofs.Loops.{running_none, running_more, running_all}
use Rattle.paths.proofs.Passing.{turned}
use Rattle.paths.proofs.Corners.{corners_inside, triangle_here}
use Rattle.paths.proofs.Hitting.{turns_end}
use Rattle.paths.proofs.pass.pass.Goals as goal

pub loop-t-init : goal.loop-t-init
loop-t-init c =
    rw (c.into_iter-t-iterator.ensures.into_iter_gives, c.enumerate-t-items.ensures.source, c.enumerate-t-items.ensures.count, c.chunks_exact.ensures.size, c.chunks_exact.ensures.rest)
    (refl, chunked_none, running_none)

pub triangle_of-tri-requires : goal.triangle_of-tri-requires
triangle_of-tri-requires c =
    let I = c.loop-t.invariant in
    let S = c.in-Some.ensures.steps in
    let m = S.0.1.1 ∙ I.0 in
    (m, corners_inside _ I.1 (record { is = S.0.1.0 }) m c.requires.0)

pub loop-t-preserved : goal.loop-t-preserved
loop-t-preserved c =
    let I = c.loop-t.invariant in
    let S = c.in-Some.ensures.steps in
    let m = S.0.1.1 ∙ I.0 in
    let d : Split _ _ _ = record { is = S.0.1.0 } in
    let tri = c.triangle_of-tri.ensures ∙ triangle_here _ I.1 d m _ in
    rw S.2 (
      S.0.0 ∙ I.0,
      chunked_more _ I.1 d m,
      running_more I.2 (chunked_here _ I.1 d m (omega arith)) (turned _ _ _ _ _ _ _ _ tri (rw (I.2.size, S.1) at c.turn.ensures.0)) c.turn.auto.answers,
    )

pub returns-then-not-turn : goal.returns-then-not-turn
returns-then-not-turn c =
    let I = c.loop-t.invariant in
    let S = c.in-Some.ensures.steps in
    let m = S.0.1.1 ∙ I.0 in
    let d : Split _ _ _ = record { is = S.0.1.0 } in
    let tri = c.triangle_of-tri.ensures ∙ triangle_here _ I.1 d m _ in
    turns_end c.args.positions.now c.args.indices.now c.args.rays.now (length c.args.answers.now) (eqb (hit_count c.args.rays.now c.triangle_of-tri.result (length c.args.answers.now)) 0)
    (running_more I.2 (chunked_here _ I.1 d m (omega arith)) (turned _ _ _ _ _ _ _ _ tri (rw (I.2.size, S.1) at c.turn.ensures.0)) c.turn.auto.answers)
    (rw I.2.size at c.turn.ensures.1) (search rules)

pub returns : goal.returns
returns c = let I = c.loop-t.invariant in running_all I.2 (omega (arith, chunked_all I.1 (omega (arith, c.in-None.ensures.steps.0.1.0, I.0))))
