use mathlib.Core.Path.{sym, ◌∙◌}
use Rattle.lists.proofs.Words.{same_next, same_differ, same_end}
use Rattle.vertices.proofs.parts.is_row.Goals as goal

pub returns-then-key-j : goal.returns-then-key-j
returns-then-key-j c =
    let P = c.requires in
    sym (c.loop-t.invariant ∙ same_differ _ _ _ _ _ _ P.0 P.1 c.loop-t-test.true c.if-key-j.true)

pub loop-t-preserved : goal.loop-t-preserved
loop-t-preserved c =
    let P = c.requires in
    c.loop-t.invariant ∙ same_next _ _ _ _ _ _ P.0 P.1 c.loop-t-test.true c.if-key-j.false

pub returns : goal.returns
returns c =
    let P = c.requires in
    sym (c.loop-t.invariant ∙ same_end _ _ _ _ _ _ P.0 P.1 c.loop-t-test.false)
