-- FORMAT 5: the bits of the result.
use Rattle.std.specs.Prelude.{◌≡◌}
use Rattle.block.specs.declared.header.Header.{Header}
use Rattle.mesh.specs.Mesh.{Mesh}
use Rattle.mesh.specs.Result.{result_of}
use Rattle.sizes.specs.declared.flags.Flags.{Flags}

-- whatever the mesh
pub record Flagged (h : Header) (r : Flags) : Type 0 where
  pub solid : (M : Mesh) → r.solid ≡ (result_of h M).solid
  pub unlit : (M : Mesh) → r.unlit ≡ (result_of h M).unlit
  pub has_colours : (M : Mesh) → r.has_colors ≡ (result_of h M).has_colours
