use Rattle.text.specs.Digits.{decimal}
use Rattle.text.proofs.Pieces.{then}
use Rattle.sinetable.specs.Lines.{entry_line}
use Rattle.sinetable.proofs.lines.put_line.Goals as goal

pub returns : goal.returns
unfolding entry_line decimal
returns c = rw c.entry.ensures at (then c.put_digits.ensures c.put_byte.ensures)
