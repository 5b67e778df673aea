-- FORMAT 3, 4, 5, 7.2: two colours, row 8 of the table of refusals, the whole table, and the result of an accepted block.
use Rattle.std.specs.Prelude.{ℕ, ◌+◌, ◌*◌, Bool, ◌||◌, List, [], ◌∷◌, ◌++◌, ltb}
use Rattle.bits.specs.declared.Words4.{Words4}
use Rattle.block.specs.declared.refusal.Refusal.TheVariants.{Buffer}
use Rattle.block.specs.Header.{header_of}
use Rattle.block.specs.Refusal.{Row, row, block_rows, first_of}
use Rattle.mesh.specs.Sizes.{Sizes, sizes_of, shape_rows}
use Rattle.mesh.specs.Result.{Result, block_mesh, result_of}
use Rattle.geometry.specs.declared.answer.Call.{Call}
use Rattle.geometry.specs.declared.answer.Lengths.{Lengths}

-- FORMAT 7.2: a colour that a caller may pass: the terminal's, (0.8, 0.8, 0.8, 1)
unfoldable pub grey : Words4
grey = record { r = 0x3f4c_cccd; g = 0x3f4c_cccd; b = 0x3f4c_cccd; a = 0x3f80_0000 }

-- another: the survey desk's and the reference's, (1, 1, 1, 1)
unfoldable pub white : Words4
white = record { r = 0x3f80_0000; g = 0x3f80_0000; b = 0x3f80_0000; a = 0x3f80_0000 }

-- FORMAT 3, 8, buffer: a lent slice shorter than section 4 says
unfoldable pub is_short : Sizes → Lengths → Bool
is_short z l =
    ltb l.positions (3 * z.corners)
    || (ltb l.normals (3 * z.corners)
    || (ltb l.colours (4 * z.corners)
    || (ltb l.textures (2 * z.corners)
    || (ltb l.sources z.corners
    || (ltb l.indices z.indices
    || (ltb l.words (8 * (z.corners + z.points) + 8)
    || ltb l.floats (8 * (z.corners + z.points) + 8)))))))

-- FORMAT 3: the table, in the order in which its rows are tested
unfoldable pub rows : List ℕ → Lengths → List Row
rows bs l = let h = header_of bs in block_rows bs h ++ shape_rows bs h ++ row Buffer (is_short (sizes_of bs h) l) ∷ []

-- FORMAT 3: the number of the first of its rows that holds, 0 where none does
unfoldable pub refusal : List ℕ → Lengths → ℕ
refusal bs l = first_of (rows bs l)

-- FORMAT 5: the counts and bits of an accepted block
unfoldable pub result_for : Call → List ℕ → Result
result_for call bs = result_of (header_of bs) (block_mesh call.colour bs)
