use Rattle.tables.proofs.Listings.{listed_sound}
use Rattle.shaping.proofs.Tabling.{tabled}
use Rattle.gridshape.proofs.Bounds.{points_there}
use Rattle.gridshape.proofs.filling.put_tables.Goals as goal

pub prepare-requires : goal.prepare-requires
prepare-requires c = (listed_sound c.list_faces.ensures.1, c.requires.2)

pub returns : goal.returns
returns c =
    tabled c.requires.0.room (points_there _ _ _ _ c.requires.0 c.put_points.ensures) c.list_faces.ensures.0 c.list_faces.ensures.1 (rw c.is_some-supplied.ensures at c.prepare.ensures) c.prepare.auto.floats
