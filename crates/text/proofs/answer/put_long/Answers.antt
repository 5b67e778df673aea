use Rattle.std.proofs.Common.{rules}
use mathlib.Core.Path.{refl}
use Rattle.text.specs.Answer.{long_text}
use Rattle.text.proofs.Pieces.{printed}
use Rattle.text.proofs.answer.put_long.Goals as goal

pub returns : goal.returns
unfolding long_text
returns c = printed refl c.put_bytes.ensures (search rules)
