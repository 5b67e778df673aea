use mathlib.Core.Path.{◌∙◌}
use Rattle.polygon.proofs.Keep.{known_read}
use Rattle.polygon.proofs.Turns.{ear_in}
use Rattle.polygon.proofs.memo.Search.is_ear.Goals as goal

pub decide-requires : goal.decide-requires
decide-requires c = (known_read _ _ _ _ _ _ _ c.look-f.ensures c.requires.2, c.requires.2)

pub returns : goal.returns
returns c =
    (c.decide.ensures.0 ∙ ear_in _ _ _ _ _ _ _ c.corner_at-q.ensures c.requires.1, c.decide.ensures.1, c.decide.ensures.2)
