use Rattle.lists.proofs.Keep.{kept_all}
use Rattle.soups.proofs.Generating.{as_supplied, as_generated}
use Rattle.soups.proofs.ready.generate_where.Goals as goal

pub returns-then-supplied : goal.returns-then-supplied
returns-then-supplied c = (kept_all, as_supplied _ _ _ _ _ _ c.if-supplied.true)

pub returns : goal.returns
returns c =
    (c.generate.ensures.kept, as_generated _ _ _ _ _ _ c.if-supplied.false _ _ c.generate.ensures)
