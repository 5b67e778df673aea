use Rattle.normals.proofs.Making.{row_made}
use Rattle.normals.proofs.facing.put_row.Goals as goal

pub returns : goal.returns
returns c =
    row_made _ _ _ _ _ _ c.store3.ensures.0 c.store3.ensures.1 c.requires.1 c.store_unit.ensures.0 c.store_unit.ensures.1
