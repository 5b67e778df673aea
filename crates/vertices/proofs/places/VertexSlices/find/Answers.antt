use mathlib.Core.Path.{sym, ◌∙◌}
use native.Mathlib.Omega.{arith}
use Rattle.vertices.proofs.Keys.{roomy_le}
use Rattle.vertices.proofs.ChainLaws.{met_start, met_step, met_below, met_found, met_end}
use Rattle.vertices.proofs.places.VertexSlices.find.Goals as goal

pub loop-x-init : goal.loop-x-init
loop-x-init c =
    λ n C. met_start _ _ _ _ _ _ C _ _ c.known_by-x.ensures c.requires.3 c.requires.4

pub same_vertex-requires : goal.same_vertex-requires
same_vertex-requires c =
    let P = c.requires in
    roomy_le _ P.0 (omega (arith, met_below (c.loop-x.invariant _ P.2) _ c.in-Some.is))

pub returns-then-same_vertex : goal.returns-then-same_vertex
returns-then-same_vertex c = met_found (c.loop-x.invariant _ c.requires.2) _ c.in-Some.is (sym c.same_vertex.ensures ∙ c.if-same_vertex.true)

pub overflow_add-t-in-Some : goal.overflow_add-t-in-Some
overflow_add-t-in-Some c =
    let P = c.requires in omega (arith, P.1, c.well_formed, met_below (c.loop-x.invariant _ P.2) _ c.in-Some.is)

pub offset_bounds-work-t-in-Some : goal.offset_bounds-work-t-in-Some
offset_bounds-work-t-in-Some c =
    let P = c.requires in omega (arith, P.1, c.well_formed, met_below (c.loop-x.invariant _ P.2) _ c.in-Some.is)

pub bounds-work-t-in-Some : goal.bounds-work-t-in-Some
bounds-work-t-in-Some c =
    let P = c.requires in omega (arith, P.1, met_below (c.loop-x.invariant _ P.2) _ c.in-Some.is)

pub loop-x-smaller : goal.loop-x-smaller
loop-x-smaller c =
    (met_step _ _ _ _ _ _ c.requires.2 _ _ _ c.known_by-x-in-Some.ensures (c.loop-x.invariant _ c.requires.2) c.in-Some.is (sym c.same_vertex.ensures ∙ c.if-same_vertex.false)).0

pub loop-x-preserved : goal.loop-x-preserved
loop-x-preserved c =
    λ n C. (met_step _ _ _ _ _ _ C _ _ _ c.known_by-x-in-Some.ensures (c.loop-x.invariant n C) c.in-Some.is (sym c.same_vertex.ensures ∙ c.if-same_vertex.false)).1

pub returns : goal.returns
returns c = met_end (c.loop-x.invariant _ c.requires.2) c.in_default.is
