use mathlib.Core.Path.{◌∙◌}
use Rattle.tables.proofs.Listings.{listed_sound}
use Rattle.shaping.proofs.Tabling.{prepared_front, tabled}
use Rattle.extrusionshape.proofs.Tabling.{points_there}
use Rattle.extrusionshape.proofs.filling.put_tables.Goals as goal

pub prepare-requires : goal.prepare-requires
prepare-requires c = (listed_sound c.list_faces.ensures.1, c.requires.2)

pub returns : goal.returns
returns c = (
  tabled c.requires.0.room (points_there _ c.args.x.now.given c.requires.0 c.put_points.ensures) c.list_faces.ensures.0 c.list_faces.ensures.1 (prepared_front (rw c.is_some-supplied.ensures at c.prepare.ensures) c.arcs_where.ensures.1) (c.arcs_where.auto.floats ∙ c.prepare.auto.floats),
  c.arcs_where.ensures.0,
)
