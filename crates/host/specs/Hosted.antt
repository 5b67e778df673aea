-- FORMAT 15, 17.12: what a host's call promises: that of the call behind it, with the answer as a number and words.
use Rattle.std.specs.Prelude.{ℕ, ◌≡◌, List, [], ◌∷◌}
use Rattle.std.proofs.lemmas.List.Edits.{sets}
use Rattle.block.specs.Refusal.{number_of}
use Rattle.std.specs.Int.{from_bool}
use Rattle.lent.specs.Answer.{Answer}
use Rattle.std.specs.Prelude.{Err, Ok}
use Rattle.geometry.specs.declared.answer.Call.{Call}
use Rattle.lent.specs.declared.answer.Report.{Report}
use Rattle.host.specs.declared.Choice.{Choice}

-- FORMAT 15: what the host chose, word by word
abbrev pub call_of : Choice → Call
call_of x = let c = x.colour in record { colour = record { r = c.r; g = c.g; b = c.b; a = c.a } }

-- FORMAT 15: vertices, indices, solid, unlit and has_colors
unfoldable pub words_of : Report → List ℕ
words_of p = p.vertices ∷ p.indices ∷ from_bool p.solid ∷ from_bool p.unlit ∷ from_bool p.has_colors ∷ []

-- FORMAT 3: the number of a refusal; 0 where a mesh is made
abbrev pub returned : Answer → ℕ
returned (Err n) = number_of n
returned (Ok p) = 0

-- FORMAT 15: the result slice, as far as it goes; a refused call leaves it
abbrev pub result_after : Answer → List ℕ → List ℕ
result_after (Err n) held = held
result_after (Ok p) held = sets held 0 (words_of p)

-- FORMAT 15, 17.12: a call of which the answer fulfils a promise; with the result slice x lent it left y and returned r
pub record Hosted (promise : Answer → Type 0) (x y : List ℕ) (r : ℕ) : Type 0 where
  pub answer : Answer
  pub kept : promise answer
  pub number : r ≡ returned answer
  pub result : y ≡ result_after answer x
