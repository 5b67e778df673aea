use Rattle.primitives.proofs.Counting.{strip_turn, strip_third}
use Rattle.primitives.proofs.places.strip_place.Goals as goal

pub returns-then-i-lt2 : goal.returns-then-i-lt2
returns-then-i-lt2 c = strip_turn _ _ c.if-i-lt2.true

pub returns : goal.returns
returns c = strip_third _ _ c.requires.0 c.if-i-lt2.false
