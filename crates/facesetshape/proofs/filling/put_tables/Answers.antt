use Rattle.tables.proofs.Listings.{listed_sound}
use Rattle.shaping.proofs.Tabling.{tabled}
use Rattle.facesetshape.proofs.Tabling.{points_copied}
use Rattle.facesetshape.proofs.filling.put_tables.Goals as goal

pub prepare-requires : goal.prepare-requires
prepare-requires c = (listed_sound c.list_faces.ensures.listed, c.requires.1)

pub returns : goal.returns
returns c =
    let P = c.requires.0 in
    let L = c.args.b.now.lists in
    tabled P.room (points_copied _ c.args.b.now.header c.list_part-list.ensures _ P.room P.spots L.room L.whole c.put_points.ensures) c.list_faces.ensures.beside
    (rw (← L.coord_is) c.list_faces.ensures.listed) (rw c.is_some-supplied.ensures at c.prepare.ensures) c.prepare.auto.floats
