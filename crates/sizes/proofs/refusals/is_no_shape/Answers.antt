use Rattle.std.proofs.Common.{rules, tests}
use Rattle.mesh.specs.Sizes.{is_no_shape}
use Rattle.sizes.proofs.refusals.is_no_shape.Goals as goal

pub returns-in-Grid : goal.returns-in-Grid
unfolding is_no_shape
returns-in-Grid c = rw c.in-Grid.is c.is_no_grid.ensures

pub returns-in-Extrusion : goal.returns-in-Extrusion
unfolding is_no_shape
returns-in-Extrusion c = rw c.in-Extrusion.is c.is_no_extrusion.ensures

pub returns-in-FaceSet : goal.returns-in-FaceSet
unfolding is_no_shape
returns-in-FaceSet c = search (rules, tests)
