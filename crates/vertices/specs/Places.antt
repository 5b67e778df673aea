-- FORMAT 4, 5: room for vertices in the output slices and for the tables of the search.
use Rattle.std.specs.Prelude.{◌≡◌, List, ℕ, ◌+◌, ◌*◌, ◌≤◌, ◌<◌, length}
use Rattle.mesh.specs.Mesh.{Slices}
use Rattle.block.specs.Edition.{most}
use Rattle.vertices.specs.declared.places.Widths.{Widths}
use Rattle.vertices.specs.declared.places.Chains.{Chains}
use Rattle.vertices.specs.declared.places.VertexSlices.{VertexSlices}

-- FORMAT 11: the words of a key: how many each attribute has, and where they start, one attribute after another; the normal's start at 0
abbrev pub normal_words : ℕ
normal_words = 3

abbrev pub colour_words : ℕ
colour_words = 4

abbrev pub texture_words : ℕ
texture_words = 2

abbrev pub colour_start : ℕ
colour_start = normal_words

abbrev pub texture_start : ℕ
texture_start = colour_start + colour_words

abbrev pub key_words : ℕ
key_words = texture_start + texture_words

-- FORMAT 5: what the slices of the vertices hold
pub record Store : Type 0 where
  pub sources : List ℕ
  pub positions : List ℕ
  pub normals : List ℕ
  pub colours : List ℕ
  pub textures : List ℕ

abbrev pub store_in : VertexSlices → Store
store_in r =
    record { sources = r.sources.now; positions = r.positions.now; normals = r.normals.now; colours = r.colours.now; textures = r.textures.now }

-- of the slices of a mesh
abbrev pub store_of : Slices → Store
store_of o = record { sources = o.sources; positions = o.positions; normals = o.normals; colours = o.colours; textures = o.textures }

-- r' is still lent what r was
pub record SameSlices (r r' : VertexSlices) : Type 0 where
  pub sources : r'.sources.ghost_name ≡ r.sources.ghost_name
  pub positions : r'.positions.ghost_name ≡ r.positions.ghost_name
  pub normals : r'.normals.ghost_name ≡ r.normals.ghost_name
  pub colours : r'.colours.ghost_name ≡ r.colours.ghost_name
  pub textures : r'.textures.ghost_name ≡ r.textures.ghost_name

-- room for n vertices in these slices
pub record Roomy (w : Widths) (s : Store) (n : ℕ) : Type 0 where
  pub widths : (w.normal ≤ normal_words) × (w.colour ≤ colour_words) × (w.texture ≤ texture_words)
  pub few : n ≤ most
  pub sources : n ≤ length s.sources
  pub positions : 3 * n ≤ length s.positions
  pub normals : w.normal * n ≤ length s.normals
  pub colours : w.colour * n ≤ length s.colours
  pub textures : w.texture * n ≤ length s.textures

-- in a working slice of len words the points' words stand before the heads, one for each bucket, these before the nexts, and there are nexts for n vertices
pub record Laid (t : Chains) (len n : ℕ) : Type 0 where
  pub some : t.spots ≤ most
  pub points : t.points + 3 * t.spots ≤ t.heads
  pub buckets : (0 < t.buckets) × (t.buckets ≤ 4 * most)
  pub heads : t.heads + t.buckets ≤ t.nexts
  pub nexts : t.nexts + n ≤ len

-- room for n vertices in these slices, and in the tables, which m holds
pub record Room (w : Widths) (t : Chains) (s : Store) (m : List ℕ) (n : ℕ) : Type 0 where
  pub roomy : Roomy w s n
  pub laid : Laid t (length m) n
