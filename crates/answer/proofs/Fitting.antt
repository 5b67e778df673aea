-- FORMAT 14: there is room for the text of every answer, so none is cut off.
use Prim.Native.Nat.{ℕ, ◌≤◌}
use mathlib.Core.Path.{◌≡◌, refl}
use mathlib.Core.Bool.{Bool, true, false}
use mathlib.Core.List.{List}
use native.Mathlib.Omega.{arith}
use lib.Dec.{ltb}
use lib.ListN.{length}
use Rattle.block.specs.Header.{header_of}
use Rattle.lists.specs.Loops.{pick}
use Rattle.mesh.specs.Mesh.{Slices}
use Rattle.lent.specs.Answer.{Saying, refused, made, said}
use Rattle.geometry.specs.Answer.{result_for}
use Rattle.text.specs.declared.lines.Parts.{Parts}
use Rattle.text.specs.Answer.{long_text, text_room}
use Rattle.text.specs.Wrote.{Printed}
use Rattle.text.proofs.Pieces.{Shown, shown}
use Rattle.text.proofs.TextFits.{text_fits, refusal_fits, long_fits}
use Rattle.answer.specs.Lending.{passed, number, left}
use Rattle.answer.specs.Text.{longest, head_of, parts_of, text_of, block_text, answer_text}
use Rattle.answer.proofs.Counts.{Few, said_few}

saying_fits : (s : Saying) (parts : Parts) (S : Slices) → Few s → length (text_of s parts S) ≤ text_room
unfolding text_room
saying_fits (refused n) parts S h = omega (arith, refusal_fits n)
saying_fits (made r) parts S h = text_fits (head_of r) parts S h.0 h.1

pub fits : (bs : List ℕ) → length (answer_text bs) ≤ text_room
unfolding answer_text block_text text_room
fits bs = go (ltb longest (length bs))
  where
    go : (b : Bool) → length (pick b long_text (block_text bs)) ≤ text_room
    go true = omega (arith, long_fits)
    go false =
        saying_fits (said (number bs) (result_for passed bs)) (parts_of (header_of bs)) (left bs) (said_few bs (said (number bs) (result_for passed bs)) refl)

-- FORMAT 14: in a buffer that has room for every answer the first k bytes are the whole answer
pub whole_text : (bs l m : List ℕ) (k : ℕ) → Printed l (answer_text bs) m k → 41747 ≤ length l → Shown (answer_text bs) m k
unfolding text_room
whole_text bs l m k p room = shown l m (answer_text bs) k p (omega (arith, fits bs))
