use Rattle.sizes.proofs.Bits.{flagged_by}
use Rattle.sizes.proofs.flags.flags_of.Goals as goal
use Rattle.sizes.proofs.flags.flags_of.Goals.{then-lines, else-lines}

pub returns : goal.returns
returns c =
    flagged_by _ _ _ _
    (elim c.if-lines.branch [
      | then-lines w ↦ rw (w.result-is, ← c.is_lines-lines.ensures, w.if-lines.true)
      | else-lines w ↦ rw (w.result-is, ← c.is_lines-lines.ensures, w.if-lines.false)
    ])
    c.is_lines-lines.ensures c.makes_colours.ensures
