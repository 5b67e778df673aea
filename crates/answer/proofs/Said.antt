-- FORMAT 14: what a call leaves and says, and the text of it.
use Prim.Native.Nat.{ℕ, ◌≤◌, ◌<◌}
use mathlib.Core.Path.{◌≡◌, sym, ap, ◌∙◌, subst}
use mathlib.Core.List.{List}
use borrow.Author.Tests.{lt-ltb, le-ltb}
use lib.ListN.{length}
use Rattle.block.specs.Header.{header_of}
use Rattle.lent.specs.Answer.{Answer}
use Rattle.lent.specs.Answer.{saying}
use Rattle.text.specs.declared.lines.Parts.{Parts}
use Rattle.text.specs.Answer.{long_text}
use Rattle.text.specs.Wrote.{Printed}
use Rattle.answer.specs.declared.lending.Conversion.{Conversion}
use Rattle.answer.specs.Lending.{slices_in, Left}
use Rattle.answer.specs.Text.{longest, parts_of, text_of, block_text, answer_text}
use Rattle.answer.proofs.Counts.{Few, said_few}

-- the text of what c says
pub said_printed : (bs : List ℕ) (c : Conversion) (r : Answer) (parts : Parts) (l m : List ℕ) (k : ℕ) → Left bs c → c.answer ≡ r → parts ≡ parts_of (header_of bs)
    → Printed l (text_of (saying r) parts (slices_in c)) m k → Printed l (block_text bs) m k
unfolding block_text
said_printed bs c r parts l m k L e p =
    let s = ap saying (sym e) ∙ L.answer in
    subst (λ (t : List ℕ). Printed l t m k) (λ i. text_of (s i) (p i) (L.slices i))

pub answer_few : (bs : List ℕ) (c : Conversion) (r : Answer) → Left bs c → c.answer ≡ r → Few (saying r)
answer_few bs c r L e = said_few bs (saying r) (ap saying (sym e) ∙ L.answer)

-- FORMAT 14: the text of an input, by its length
pub long_printed : (bs l m : List ℕ) (k : ℕ) → longest < length bs → Printed l long_text m k → Printed l (answer_text bs) m k
unfolding answer_text
long_printed bs l m k h p = rw (lt-ltb longest (length bs) h) p

pub block_printed : (bs l m : List ℕ) (k : ℕ) → length bs ≤ longest → Printed l (block_text bs) m k → Printed l (answer_text bs) m k
unfolding answer_text
block_printed bs l m k h p = rw (le-ltb longest (length bs) h) p
