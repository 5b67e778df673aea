-- FORMAT 5: which attributes are made, by the bits of the result.
use mathlib.Core.Path.{◌≡◌, ap}
use mathlib.Core.Bool.{Bool, not}
use Rattle.block.specs.declared.header.Header.{Header}
use Rattle.mesh.specs.Mesh.{no_mesh}
use Rattle.mesh.specs.Result.{makes_textures, result_of}
use Rattle.sizes.specs.declared.flags.Flags.{Flags}
use Rattle.sizes.specs.Flagged.{Flagged}
use Rattle.answer.specs.Text.{parts_of}

-- the bits do not depend on the mesh
pub parts_by : (h : Header) (f : Flags) (t : Bool) → Flagged h f → t ≡ makes_textures h
    → record { normals = not f.unlit; colours = f.has_colors; texture = t; lines = f.unlit } ≡ parts_of h
unfolding result_of
parts_by h f t F e =
    let n = ap not (F.unlit no_mesh) in
    λ i. record { normals = n i; colours = F.has_colours no_mesh i; texture = e i; lines = F.unlit no_mesh i }
