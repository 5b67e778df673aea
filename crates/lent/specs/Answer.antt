-- FORMAT 3, 5: what each answer says, and the six slices after a call.
use Rattle.std.specs.Prelude.{ℕ, zero, suc, Ok, Err}
use Rattle.std.specs.Prelude as prelude
use Rattle.block.specs.declared.refusal.Refusal.{Refusal}
use Rattle.block.specs.Refusal.{number_of}
use Rattle.mesh.specs.Mesh.{Slices, over_all}
use Rattle.mesh.specs.Result.{Result}
use Rattle.lent.specs.declared.answer.Report.{Report}

-- FORMAT 3, 5: an answer: what is made, or why nothing is
abbrev pub Answer : Type 0
Answer = prelude.Result Report Refusal

-- FORMAT 3, 5: what an answer says: the number of a refusal, or the counts and bits of a mesh
pub data Saying : Type 0 where
  refused : ℕ → Saying
  made : Result → Saying

-- FORMAT 3, 5: each answer's
abbrev pub saying : Answer → Saying
saying (Err n) = refused (number_of n)
saying (Ok p) = made (record { vertices = p.vertices; indices = p.indices; solid = p.solid; unlit = p.unlit; has_colours = p.has_colors })

-- FORMAT 3, 5: what is to be said: the number, or the result where nothing is refused
abbrev pub said : ℕ → Result → Saying
said zero r = made r
said (suc n) r = refused (suc n)

-- FORMAT 3, 5: the six slices after a call: where nothing is refused, what is made and then what they held; else what they held
abbrev pub after_all : ℕ → Slices → Slices → Slices
after_all zero new held = over_all new held
after_all (suc n) new held = held
