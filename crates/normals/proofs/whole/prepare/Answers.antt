use Rattle.normals.proofs.Making.{made, after_owners, after_rows}
use Rattle.normals.proofs.whole.prepare.Goals as goal

pub rows-requires : goal.rows-requires
rows-requires c = after_owners c.requires c.owners.ensures.0

pub group-requires : goal.group-requires
group-requires c =
    after_rows (after_owners c.requires c.owners.ensures.0) c.rows.ensures.0

pub returns : goal.returns
returns c =
    made c.requires c.owners.ensures.0 c.owners.ensures.1 c.rows.ensures.0 c.rows.ensures.1 c.group.ensures.0 c.group.ensures.1
