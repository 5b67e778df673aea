use Rattle.sizes.proofs.ByKind.{of_kind, count_few, grid_sides, extrusion_given}
use Rattle.sizes.proofs.kinds.sizes_of.Goals as goal

pub returns-in-FaceSet : goal.returns-in-FaceSet
returns-in-FaceSet c = of_kind _ _ _ c.in-FaceSet.is c.face_set_sizes.ensures

pub returns-in-LineSet : goal.returns-in-LineSet
returns-in-LineSet c = of_kind _ _ _ c.in-LineSet.is c.line_set_sizes.ensures

pub invariant_of-grid : goal.invariant_of-grid
invariant_of-grid c = record { sides = grid_sides c.requires c.in-Grid.is }

pub returns-in-Grid : goal.returns-in-Grid
returns-in-Grid c = of_kind _ _ _ c.in-Grid.is c.grid_sizes.ensures

pub invariant_of-sides : goal.invariant_of-sides
invariant_of-sides c = record { sides = (extrusion_given c.requires c.in-Extrusion.is).1 }

pub extrusion_sizes-requires : goal.extrusion_sizes-requires
extrusion_sizes-requires c = (extrusion_given c.requires c.in-Extrusion.is).0

pub returns-in-Extrusion : goal.returns-in-Extrusion
returns-in-Extrusion c = of_kind _ _ _ c.in-Extrusion.is c.extrusion_sizes.ensures

pub primitive_sizes-requires : goal.primitive_sizes-requires
primitive_sizes-requires c = count_few c.requires 0

pub returns-in-Primitives : goal.returns-in-Primitives
returns-in-Primitives c = of_kind _ _ _ c.in-Primitives.is c.primitive_sizes.ensures
