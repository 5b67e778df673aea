use Rattle.block.specs.Edition.{edition1}
use Rattle.geometry.specs.Answer.{white}
use Rattle.limits.specs.Shown.{full}
use Rattle.limits.proofs.Showing.{shows_refused, shows_made}
use Rattle.limits.proofs.full.convert_full.Goals as goal

pub returns-in-Err : goal.returns-in-Err
unfolding full edition1 white
returns-in-Err c = shows_refused c.convert-answer.ensures.converted c.in-Err.is c.from.ensures

pub returns-in-Ok : goal.returns-in-Ok
unfolding full edition1 white
returns-in-Ok c = shows_made c.convert-answer.ensures.converted c.in-Ok.is
