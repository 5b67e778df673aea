-- FORMAT 8.2: what is asked for the mesh of a line set, and what the slices hold of it.
use Rattle.std.specs.Prelude.{◌≡◌, ◌⊎◌, List, ℕ, ◌*◌, ◌≤◌, false, Float, length, replicate}
use Rattle.std.specs.Float.{binary32}
use Rattle.std.specs.Float.Ieee.{of_bits}
use Rattle.bits.specs.Bits.{entries}
use Rattle.bits.specs.declared.Words4.{Words4}
use Rattle.block.specs.Runs.{runs, sum_over}
use Rattle.lists.specs.Loops.{tab}
use Rattle.lists.specs.Lists.{join_n}
use Rattle.mesh.specs.Mesh.{Slices, slices_of, over}
use Rattle.mesh.specs.FaceSet.{Rest, point_count}
use Rattle.mesh.specs.Lines.{line_keys, lines_of}
use Rattle.mesh.specs.Sizes.{lines_after}
use Rattle.vertices.specs.declared.places.Widths.{Widths}
use Rattle.vertices.specs.Places.{colour_words, store_of}
use Rattle.vertices.specs.Adding.{points_in}
use Rattle.corners.specs.declared.attributes.Attributes.{Attributes}
use Rattle.corners.specs.declared.laid.CornerTables.{CornerTables}
use Rattle.corners.specs.Laid.{chains_of}
use Rattle.corners.specs.Corner.{Lent, key_in}
use Rattle.corners.specs.Cornered as cornered
use Rattle.lent.specs.declared.Counts.{Counts}

-- the words w hold the corners of the line set of R and coordIndex, over p points: their keys and the points' words
pub record Told (missing : Words4) (R : Rest) (L : Lent) (a : Attributes) (widths : Widths) (w : List ℕ) (t : CornerTables) (p : ℕ) : Type 0 where
  pub keys : tab (key_in L a widths w t) t.count 0 ≡ join_n (line_keys missing R L.coord) 0 (runs (entries L.coord))
  pub points : points_in (chains_of t) w ≡ R.points
  pub count : point_count R.head ≡ p

-- the words hold a line set; no normals and no texture are made; there is room in the slices o for a vertex for each corner, and for the lines
pub record Ready (L : Lent) (a : Attributes) (widths : Widths) (w : List ℕ) (t : CornerTables) (p : ℕ) (o : Slices) : Type 0 where
  pub corners : cornered.Ready L widths w t (store_of o)
  pub normal : widths.normal ≡ 0
  pub texture : widths.texture ≡ 0
  pub colour : (widths.colour ≡ 0) ⊎ (widths.colour ≡ colour_words)
  pub room : 2 * sum_over (lines_after p false) (runs (entries L.coord)) ≤ length o.indices
  pub missing : Words4
  pub rest : Rest
  pub told : Told missing rest L a widths w t p

-- FORMAT 5: the slices o became m, which hold the line set's mesh S, and beyond it what they held
pub record Lined (S : Slices) (widths : Widths) (o m : Slices) (r : Counts) : Type 0 where
  pub sources : m.sources ≡ over S.sources o.sources
  pub positions : m.positions ≡ over S.positions o.positions
  pub normals : m.normals ≡ o.normals
  pub colours : widths.colour ≡ colour_words → m.colours ≡ over S.colours o.colours
  pub uncoloured : widths.colour ≡ 0 → m.colours ≡ o.colours
  pub textures : m.textures ≡ o.textures
  pub indices : m.indices ≡ over S.indices o.indices
  pub vertices : r.vertices ≡ length S.sources
  pub count : r.indices ≡ length S.indices

-- FORMAT 5, 8.2: the mesh of the line set that the words held, whichever it was; the working slices, now w' and f, are zeros
pub record Done (L : Lent) (a : Attributes) (widths : Widths) (w : List ℕ) (t : CornerTables) (p : ℕ) (o m : Slices) (w' : List ℕ) (f : List Float) (r : Counts) : Type 0 where
  pub lined : (missing : Words4) (R : Rest) → Told missing R L a widths w t p → Lined (slices_of (lines_of missing R L.coord)) widths o m r
  pub words : w' ≡ replicate (length w) 0
  pub floats : f ≡ replicate (length L.floats) (of_bits binary32 0)
