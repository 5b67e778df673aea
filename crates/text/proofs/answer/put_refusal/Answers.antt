use Rattle.std.proofs.Common.{rules}
use mathlib.Core.Path.{refl}
use Rattle.text.specs.Answer.{refusal_text}
use Rattle.text.proofs.Pieces.{then, printed}
use Rattle.text.proofs.answer.put_refusal.Goals as goal

pub returns : goal.returns
unfolding refusal_text
returns c c' = (_, c'.into-number.ensures, printed refl (then c'.put_bytes.ensures (then c'.put_field.ensures c'.put_byte.ensures)) (search rules))
