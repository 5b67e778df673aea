-- FORMAT 14: an answer, computed.
use mathlib.Core.Path.{◌≡◌, refl}
use mathlib.Core.List.{[], ◌∷◌}
use Rattle.block.specs.Edition.{edition1}
use Rattle.block.specs.Refusal.{block_rows, first_of}
use Rattle.geometry.specs.Answer.{rows, refusal}
use Rattle.text.specs.Digits.{digit_byte, digits, decimal}
use Rattle.text.specs.Fields.{number_field}
use Rattle.text.specs.Answer.{refusal_text}
use Rattle.answer.specs.Text.{block_text, answer_text}

-- an empty input: "no 1"
pub empty : answer_text [] ≡ 110 ∷ 111 ∷ 32 ∷ 49 ∷ 10 ∷ []
unfolding answer_text block_text refusal rows block_rows first_of edition1 refusal_text number_field decimal digits digit_byte
empty = refl
