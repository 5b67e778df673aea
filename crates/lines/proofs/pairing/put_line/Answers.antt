use native.Mathlib.Omega.{arith}
use Rattle.lists.proofs.Pieces.{added_by}
use Rattle.lines.proofs.Pairs.{line_two, line_put, line_left}
use Rattle.lines.proofs.pairing.put_line.Goals as goal

pub put_all-requires : goal.put_all-requires
put_all-requires c = omega (arith, line_two _ c.args.next.0 c.in-Some.is, c.requires.0)

pub returns-in-Some : goal.returns-in-Some
returns-in-Some c =
    added_by _ _ _ (line_two _ c.args.next.0 c.in-Some.is) (line_put _ _ c.in-Some.is _ _ (rw (c.narrow.ensures, c.narrow-in-Some.ensures) at c.put_all.ensures))

pub returns-in-None : goal.returns-in-None
returns-in-None c = line_left _ c.in-None.is _ _
