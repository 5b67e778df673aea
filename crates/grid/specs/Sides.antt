-- FORMAT 2.2, 2.4: what is asked of a grid's sides, and of the plan of its tables.
use Rattle.std.specs.Prelude.{◌≡◌, ℕ, ◌*◌, ◌≤◌}
use Rattle.block.specs.Edition.{most}
use Rattle.block.specs.declared.header.Header.{Header}
use Rattle.math.specs.Whole.{Exact}
use Rattle.mesh.specs.Grid.{x_dimension, z_dimension}
use Rattle.mesh.specs.Sizes.{quad_count}
use Rattle.tables.specs.declared.layout.Plan.{Plan}
use Rattle.tables.specs.Layout.{Room}

-- FORMAT 2.2, 3: a count is a float without loss; no side is below 2 (refusal 6), nor are there more points than the tables hold (refusal 7)
pub record Sides (h : Header) : Type 0 where
  pub wide : 2 ≤ x_dimension h
  pub deep : 2 ≤ z_dimension h
  pub width : Exact (x_dimension h)
  pub depth : Exact (z_dimension h)
  pub few : x_dimension h * z_dimension h ≤ most

-- FORMAT 4: a plan for the grid's points, corners and quads, in len words
pub record Planned (h : Header) (len : ℕ) (t : Plan) : Type 0 where
  pub room : Room len t
  pub spots : t.spots ≡ x_dimension h * z_dimension h
  pub count : t.count ≡ 4 * quad_count h
  pub faces : t.faces ≡ quad_count h
