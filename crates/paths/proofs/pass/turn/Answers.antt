use Rattle.paths.proofs.Hitting.{turn_missed}
use Rattle.paths.proofs.pass.turn.Goals as goal

pub returns-then-count_hits-eq0 : goal.returns-then-count_hits-eq0
returns-then-count_hits-eq0 c = turn_missed _ _ _ _ c.count_hits.ensures _ c.if-count_hits-eq0.true
