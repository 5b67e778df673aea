-- FORMAT 17.2, 17.10, 17.11: sizes with their defaults, slices and stacks within their bounds, and by numbers what a part asks for and reports.
use Rattle.std.specs.Prelude.{ℕ, ◌+◌, ◌*◌, ◌≤◌, Bool, true, false, ◌&&◌, ◌||◌, cond, ltb, length, Float}
use Rattle.std.specs.Float.Ieee.{lt}
use Rattle.std.specs.Float.Ieee.Scale.{finite}
use Rattle.math.specs.Vector.{zero_f}
use Rattle.lent.specs.declared.answer.Report.{Report}
use Rattle.parts.specs.declared.builder.Builder.{Builder}
use Rattle.parts.specs.declared.sizes.PartLengths.{PartLengths}
use Rattle.parts.specs.declared.sizes.PartSizes.{PartSizes}
use Rattle.parts.specs.declared.vert.GeomCtx.{GeomCtx}

-- FORMAT 17.2, dim: positive and finite, or the default
unfoldable pub dim_of : Float → Float → Float
dim_of v d = cond (finite v && lt zero_f v) v d

-- FORMAT 17.2, u32::clamp: n, no less than the least number and no more than 1,024
unfoldable pub held_to : ℕ → ℕ → ℕ
held_to n least = cond (ltb n least) least (cond (ltb 1024 n) 1024 n)

-- FORMAT 17.10: texture that is not wanted asks for nothing
unfoldable pub is_short_texture : GeomCtx → PartSizes → PartLengths → Bool
is_short_texture c z l = c.need_uvs && ltb l.textures (2 * z.vertices)

-- FORMAT 17.10, 8, by numbers: a lent slice is shorter than what is to be written to it
unfoldable pub is_short_by : GeomCtx → PartSizes → PartLengths → Bool
is_short_by c z l =
    ltb l.positions (3 * z.vertices)
    || (ltb l.normals (3 * z.vertices)
    || (is_short_texture c z l
    || ltb l.indices z.indices))

-- FORMAT 17.1: the lengths of the slices that b holds, and a list of so many floats as pairs
abbrev pub lengths_of : Builder → ℕ → PartLengths
lengths_of b floats =
    record {
      positions = length b.positions.now;
      normals = length b.normals.now;
      textures = length b.textures.now;
      indices = length b.indices.now;
      floats = floats;
    }

-- FORMAT 17.10, 8: a slice that b holds is shorter; the number of floats is not asked
unfoldable pub is_short_part : Builder → PartSizes → Bool
is_short_part b z = is_short_by b.ctx z (lengths_of b 0)

-- FORMAT 17.11: solid, lit and without colours
unfoldable pub report_of : PartSizes → Report
report_of z = record { vertices = z.vertices; indices = z.indices; solid = true; unlit = false; has_colors = false }

-- FORMAT 17.10: the sizes of a part and of one that follows it
abbrev pub sum_of : PartSizes → PartSizes → PartSizes
sum_of a b = record { vertices = a.vertices + b.vertices; indices = a.indices + b.indices; pairs = a.pairs + b.pairs }

-- FORMAT 17.10: those of no part
abbrev pub no_sizes : PartSizes
no_sizes = record { vertices = 0; indices = 0; pairs = 0 }

-- FORMAT 17.10: those that are given, where the part is there
unfoldable pub sizes_where : Bool → PartSizes → PartSizes
sizes_where there z = cond there z no_sizes

-- a bound of the parts' own, above what the side or a cap of 1,024 slices has of each
abbrev pub piece_most : ℕ
piece_most = 8192

-- at most m each
pub record Small (m : ℕ) (z : PartSizes) : Type 0 where
  pub vertices : z.vertices ≤ m
  pub indices : z.indices ≤ m
  pub pairs : z.pairs ≤ m
