-- FORMAT 3: what a verdict says.
use Rattle.std.specs.Prelude.{◌≡◌, List, ℕ, Result, Ok, Err}
use Rattle.block.specs.declared.header.Header.{Header}
use Rattle.block.specs.Refusal.{number_of}
use Rattle.block.specs.declared.refusal.Refusal.{Refusal}
use Rattle.sizes.specs.declared.kinds.Sizes.{Sizes}
use Rattle.sizes.specs.Known.{Counted}

-- n is the number of the first row that holds, 0 where none does: the refusal has it; or it is 0, and the sizes are the block's
unfoldable pub Judged : List ℕ → Header → ℕ → Result Sizes Refusal → Type 0
Judged bs h n (Err a) = number_of a ≡ n
Judged bs h n (Ok z) = (n ≡ 0) × Counted bs h z
