-- FORMAT 3, 4, 5: a block that the rows of the table up to 7 let pass, slices as long as it asks, and what they hold in the end.
use Rattle.std.specs.Prelude.{◌≡◌, false, List, ℕ, ◌+◌, ◌*◌, ◌≤◌, length, replicate, Float}
use Rattle.std.specs.Float.{binary32}
use Rattle.std.specs.Float.Ieee.{of_bits}
use Rattle.block.specs.declared.header.Header.{Header}
use Rattle.block.specs.declared.kind.Kind.{Kind}
use Rattle.block.specs.declared.settings.Settings.{Settings}
use Rattle.block.specs.Header.{header_of}
use Rattle.block.specs.Settings.{settings_of}
use Rattle.block.specs.Refusal.{Taken}
use Rattle.mesh.specs.Mesh.{Mesh, Slices, slices_of, over_all}
use Rattle.mesh.specs.Sizes.{Sizes, sizes_of, is_no_shape, is_over_corners}
use Rattle.mesh.specs.Result.{made_of}
use Rattle.lent.specs.declared.Counts.{Counts}

-- FORMAT 3: h and s are what the block has, and none of the rows up to 7 holds
pub record Accepted (bs : List ℕ) (h : Header) (s : Settings) : Type 0 where
  pub header : h ≡ header_of bs
  pub settings : s ≡ settings_of bs
  pub taken : Taken bs h
  pub shape : is_no_shape h ≡ false
  pub corners : is_over_corners bs h ≡ false

-- FORMAT 4: the slices o, w working numbers and f working floats are long enough for the sizes z
pub record Enough (z : Sizes) (o : Slices) (w f : ℕ) : Type 0 where
  pub positions : 3 * z.corners ≤ length o.positions
  pub normals : 3 * z.corners ≤ length o.normals
  pub colours : 4 * z.corners ≤ length o.colours
  pub textures : 2 * z.corners ≤ length o.textures
  pub sources : z.corners ≤ length o.sources
  pub indices : z.indices ≤ length o.indices
  pub words : 8 * (z.corners + z.points) + 8 ≤ w
  pub floats : 8 * (z.corners + z.points) + 8 ≤ f

-- FORMAT 3, 4: a block of kind k is accepted, and the slices o, w words and f floats are enough for it
pub record Asked (k : Kind) (bs : List ℕ) (h : Header) (s : Settings) (o : Slices) (w f : ℕ) : Type 0 where
  pub accepted : Accepted bs h s
  pub kind : h.kind ≡ k
  pub enough : Enough (sizes_of bs h) o w f

-- FORMAT 5: the slices o became m, which hold what is made of the mesh M of a block with header h
pub record Shaped (h : Header) (M : Mesh) (o m : Slices) (r : Counts) : Type 0 where
  pub vertices : r.vertices ≡ length M.sources
  pub count : r.indices ≡ length M.indices
  pub slices : m ≡ over_all (made_of h (slices_of M)) o

-- FORMAT 4: the working slices w and f became w' and f', which hold zeros
pub record Cleared (w w' : List ℕ) (f f' : List Float) : Type 0 where
  pub words : w' ≡ replicate (length w) 0
  pub floats : f' ≡ replicate (length f) (of_bits binary32 0)
