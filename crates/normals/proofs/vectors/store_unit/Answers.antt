use Rattle.normals.proofs.Making.{unit_some, unit_none}
use Rattle.normals.proofs.vectors.store_unit.Goals as goal

pub returns-in-Some : goal.returns-in-Some
returns-in-Some c =
    unit_some _ _ _ c.requires _ _ c.store3.ensures.0 c.store3.ensures.1 c.in-Some.is

pub returns-in-None : goal.returns-in-None
returns-in-None c = unit_none _ _ _ c.requires c.in-None.is
