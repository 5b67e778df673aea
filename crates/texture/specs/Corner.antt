-- FORMAT 7.1 to 7.4: the texture of a corner, from the block's bytes.
use Rattle.std.specs.Prelude.{true, cond, List, ℕ}
use Rattle.bits.specs.declared.Words2.{Words2}
use Rattle.block.specs.declared.header.Header.{Header}
use Rattle.block.specs.declared.settings.Settings.{Settings}
use Rattle.block.specs.Stream.{stream_of, get2_at}
use Rattle.block.specs.Texture.{uv_words}
use Rattle.mesh.specs.Words.{no2}

-- FORMAT 7.1 to 7.4, indexed_face_set and elevation_grid (t_out): what list 6 has at a place, which its own index list, coordIndex or none leads through;
-- the default where no list is there; texture is always per vertex, so no face number counts
unfoldable pub texture_in : List ℕ → List ℕ → Header → Settings → ℕ → Words2 → Words2
texture_in bs coord h s place default =
    let listed = get2_at bs coord (stream_of h true 6) place 0 no2 in
    let uv = uv_words h.transformed s.transform in
    cond h.texture_points (uv listed) (cond h.need_uvs (uv default) no2)
