use mathlib.Core.Path.{sym, ◌∙◌}
use Rattle.vertices.proofs.Held.{vertexed_old, vertexed_new}
use Rattle.vertices.proofs.adding.vertex.Goals as goal

pub returns-in-Some-clause-vertexed : goal.returns-in-Some-clause-vertexed
returns-in-Some-clause-vertexed c =
    let P = c.requires in
    vertexed_old _ _ _ _ _ _ _ P.room.roomy P.chained (sym c.find.ensures ∙ c.in-Some.is)

pub returns-clause-vertexed : goal.returns-clause-vertexed
returns-clause-vertexed c =
    let P = c.requires in
    vertexed_new _ _ _ _ _ _ _ _ _ _ P.room P.point P.words c.append.ensures.appended (sym c.find.ensures ∙ c.in_default.is) P.held P.chained
    c.bucket_of-bucket.ensures.0 c.bucket_of-bucket.ensures.1
