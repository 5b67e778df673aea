-- FORMAT 7.1: the texture of a corner from the block's bytes is that of the mesh, for face sets and for grids.
use mathlib.Core.Path.{◌≡◌, sym, ap₂}
use mathlib.Core.Bool.{true, cond}
use mathlib.Core.List.{List}
use Prim.Native.Nat.{ℕ}
use Rattle.bits.specs.declared.Words2.{Words2}
use Rattle.block.specs.Stream.{number_at, stream_of, values_in, index_in}
use Rattle.block.specs.Texture.{uv_words}
use Rattle.block.specs.Value.{value2_at}
use Rattle.mesh.specs.Words.{no2}
use Rattle.mesh.specs.FaceSet.{Rest, texture_by}
use Rattle.texture.specs.Corner.{texture_in}

-- for a rest whose lists are those of the block's stream
module _ (bs coord : List ℕ) (R : Rest) (num k : ℕ) (default : Words2)
    (values : R.textures ≡ values_in bs (stream_of R.head true 6))
    (index : R.texture_index ≡ index_in bs (stream_of R.head true 6)) where
  pub texture_rest : texture_in bs coord R.head R.settings k default ≡ texture_by R coord num k default
  unfolding texture_in texture_by stream_of number_at
  texture_rest =
      ap₂ (λ (v i : List ℕ).
      let listed = value2_at v (number_at i coord true k num) no2 in
      let uv = uv_words R.head.transformed R.settings.transform in
      cond R.head.texture_points (uv listed) (cond R.head.need_uvs (uv default) no2)) (sym values) (sym index)
