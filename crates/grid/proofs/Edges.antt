-- FORMAT 7.3, 7.4: the textures of the points of a column, as they are made.
use mathlib.Core.Path.{◌≡◌, ◌∙◌}
use mathlib.Core.List.{List, []}
use Prim.Native.Nat.{ℕ, ◌+◌, ◌*◌, ◌<◌}
use Rattle.bits.specs.declared.Words2.{Words2}
use Rattle.block.specs.declared.header.Header.{Header}
use Rattle.block.specs.declared.settings.Settings.{Settings}
use Rattle.lists.proofs.Numbers.{column_of, row_of}
use Rattle.mesh.specs.Grid.{x_dimension, z_dimension, part_word, grid_default}
use Rattle.texture.specs.Corner.{texture_in}
use Rattle.grid.specs.Textures.{grid_texture, texture_at}

-- of point p, in column i of row j, by the words x and y
pub texture_made : (bs : List ℕ) (h : Header) (s : Settings) (i j : ℕ) {coord : List ℕ} {p x y : ℕ} {v : Words2} → i < x_dimension h → coord ≡ [] → p ≡ i + j * x_dimension h
    → x ≡ part_word i (x_dimension h) → y ≡ part_word j (z_dimension h) → v ≡ texture_in bs coord h s p (record { s = x; t = y }) → v ≡ texture_at bs h s i j
unfolding grid_texture grid_default
texture_made bs h s i j l c ep ex ey e =
    let xd = x_dimension h in
    rw (column_of xd i j l, row_of xd i j l) (e ∙ λ t. texture_in bs (c t) h s (ep t) (record { s = ex t; t = ey t }))
