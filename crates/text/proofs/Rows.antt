-- FORMAT 14: the text of the 2 by 2 grid's answer, byte by byte; some numbers; and what the grid has not.
use Prim.Native.Nat.{ℕ}
use mathlib.Core.Path.{◌≡◌, refl}
use mathlib.Core.Bool.{true, false}
use mathlib.Core.List.{List, [], ◌∷◌, ◌++◌}
use Rattle.lists.specs.Loops.{tab}
use Rattle.lists.specs.Lists.{flat}
use Rattle.mesh.specs.Mesh.{Slices}
use Rattle.lent.specs.declared.answer.Report.{Report}
use Rattle.text.specs.declared.lines.Parts.{Parts}
use Rattle.text.specs.Digits.{digit_byte, digits, hexadecimal, decimal}
use Rattle.text.specs.Fields.{word_field, number_field, fields, attribute}
use Rattle.text.specs.Lines.{place_text, made_text, vertex_line, element_line, element_lines, line_line}
use Rattle.text.specs.Answer.{counts_text, flags_text, head_line, mesh_text}

-- what the slices hold: 1065353216 is 3f800000, the word of 1
abbrev grid_slices : Slices
grid_slices =
    record {
      sources = 0 ∷ 2 ∷ 3 ∷ 1 ∷ [];
      positions = 0 ∷ 0 ∷ 0 ∷ 0 ∷ 0 ∷ 1065353216 ∷ 1065353216 ∷ 0 ∷ 1065353216 ∷ 1065353216 ∷ 0 ∷ 0 ∷ [];
      normals = 0 ∷ 1065353216 ∷ 0 ∷ 0 ∷ 1065353216 ∷ 0 ∷ 0 ∷ 1065353216 ∷ 0 ∷ 0 ∷ 1065353216 ∷ 0 ∷ [];
      colours = [];
      textures = [];
      indices = 0 ∷ 1 ∷ 2 ∷ 0 ∷ 2 ∷ 3 ∷ [];
    }

abbrev grid_head : Report
grid_head = record { vertices = 4; indices = 6; solid = true; unlit = false; has_colors = false }

abbrev grid_parts : Parts
grid_parts = record { normals = true; colours = false; texture = false; lines = false }

-- mesh 4 6 1 0 0
abbrev line1 : List ℕ
line1 =
    109 ∷ 101 ∷ 115 ∷ 104 ∷ 32 ∷ 52 ∷ 32 ∷ 54 ∷ 32 ∷ 49 ∷ 32 ∷ 48 ∷ 32 ∷ 48 ∷ 10 ∷ []

-- v 0 00000000 00000000 00000000 n 00000000 3f800000 00000000
abbrev line2 : List ℕ
line2 =
    118 ∷ 32 ∷ 48 ∷ 32 ∷ 48 ∷ 48 ∷ 48 ∷ 48 ∷ 48 ∷ 48 ∷ 48 ∷ 48 ∷ 32 ∷ 48 ∷ 48 ∷ 48 ∷ 48 ∷ 48 ∷ 48 ∷ 48
    ∷ 48 ∷ 32 ∷ 48 ∷ 48 ∷ 48 ∷ 48 ∷ 48 ∷ 48 ∷ 48 ∷ 48 ∷ 32 ∷ 110 ∷ 32 ∷ 48 ∷ 48 ∷ 48 ∷ 48 ∷ 48 ∷ 48 ∷ 48
    ∷ 48 ∷ 32 ∷ 51 ∷ 102 ∷ 56 ∷ 48 ∷ 48 ∷ 48 ∷ 48 ∷ 48 ∷ 32 ∷ 48 ∷ 48 ∷ 48 ∷ 48 ∷ 48 ∷ 48 ∷ 48 ∷ 48 ∷ 10
    ∷ []

-- v 2 00000000 00000000 3f800000 n 00000000 3f800000 00000000
abbrev line3 : List ℕ
line3 =
    118 ∷ 32 ∷ 50 ∷ 32 ∷ 48 ∷ 48 ∷ 48 ∷ 48 ∷ 48 ∷ 48 ∷ 48 ∷ 48 ∷ 32 ∷ 48 ∷ 48 ∷ 48 ∷ 48 ∷ 48 ∷ 48 ∷ 48
    ∷ 48 ∷ 32 ∷ 51 ∷ 102 ∷ 56 ∷ 48 ∷ 48 ∷ 48 ∷ 48 ∷ 48 ∷ 32 ∷ 110 ∷ 32 ∷ 48 ∷ 48 ∷ 48 ∷ 48 ∷ 48 ∷ 48 ∷ 48
    ∷ 48 ∷ 32 ∷ 51 ∷ 102 ∷ 56 ∷ 48 ∷ 48 ∷ 48 ∷ 48 ∷ 48 ∷ 32 ∷ 48 ∷ 48 ∷ 48 ∷ 48 ∷ 48 ∷ 48 ∷ 48 ∷ 48 ∷ 10
    ∷ []

-- v 3 3f800000 00000000 3f800000 n 00000000 3f800000 00000000
abbrev line4 : List ℕ
line4 =
    118 ∷ 32 ∷ 51 ∷ 32 ∷ 51 ∷ 102 ∷ 56 ∷ 48 ∷ 48 ∷ 48 ∷ 48 ∷ 48 ∷ 32 ∷ 48 ∷ 48 ∷ 48 ∷ 48 ∷ 48 ∷ 48 ∷ 48
    ∷ 48 ∷ 32 ∷ 51 ∷ 102 ∷ 56 ∷ 48 ∷ 48 ∷ 48 ∷ 48 ∷ 48 ∷ 32 ∷ 110 ∷ 32 ∷ 48 ∷ 48 ∷ 48 ∷ 48 ∷ 48 ∷ 48 ∷ 48
    ∷ 48 ∷ 32 ∷ 51 ∷ 102 ∷ 56 ∷ 48 ∷ 48 ∷ 48 ∷ 48 ∷ 48 ∷ 32 ∷ 48 ∷ 48 ∷ 48 ∷ 48 ∷ 48 ∷ 48 ∷ 48 ∷ 48 ∷ 10
    ∷ []

-- v 1 3f800000 00000000 00000000 n 00000000 3f800000 00000000
abbrev line5 : List ℕ
line5 =
    118 ∷ 32 ∷ 49 ∷ 32 ∷ 51 ∷ 102 ∷ 56 ∷ 48 ∷ 48 ∷ 48 ∷ 48 ∷ 48 ∷ 32 ∷ 48 ∷ 48 ∷ 48 ∷ 48 ∷ 48 ∷ 48 ∷ 48
    ∷ 48 ∷ 32 ∷ 48 ∷ 48 ∷ 48 ∷ 48 ∷ 48 ∷ 48 ∷ 48 ∷ 48 ∷ 32 ∷ 110 ∷ 32 ∷ 48 ∷ 48 ∷ 48 ∷ 48 ∷ 48 ∷ 48 ∷ 48
    ∷ 48 ∷ 32 ∷ 51 ∷ 102 ∷ 56 ∷ 48 ∷ 48 ∷ 48 ∷ 48 ∷ 48 ∷ 32 ∷ 48 ∷ 48 ∷ 48 ∷ 48 ∷ 48 ∷ 48 ∷ 48 ∷ 48 ∷ 10
    ∷ []

-- t 0 1 2
abbrev line6 : List ℕ
line6 =
    116 ∷ 32 ∷ 48 ∷ 32 ∷ 49 ∷ 32 ∷ 50 ∷ 10 ∷ []

-- t 0 2 3
abbrev line7 : List ℕ
line7 =
    116 ∷ 32 ∷ 48 ∷ 32 ∷ 50 ∷ 32 ∷ 51 ∷ 10 ∷ []

pub grid_text : mesh_text grid_head grid_parts grid_slices ≡ line1 ++ line2 ++ line3 ++ line4 ++ line5 ++ line6 ++ line7
unfolding mesh_text head_line counts_text flags_text vertex_line place_text made_text element_lines element_line attribute fields word_field number_field hexadecimal decimal digits digit_byte tab flat
grid_text = refl

-- 0, 10 and 4294967295
pub decimals : (decimal 0 ≡ 48 ∷ []) × (decimal 10 ≡ 49 ∷ 48 ∷ []) × (decimal 4294967295 ≡ 52 ∷ 50 ∷ 57 ∷ 52 ∷ 57 ∷ 54 ∷ 55 ∷ 50 ∷ 57 ∷ 53 ∷ [])
unfolding decimal digits digit_byte
decimals = (refl, refl, refl)

-- .. c 00000000 00000000 00000000 0000000a u 00000000 0000000b, the end of a vertex line; and l 7 10
pub lines :
    (made_text (record { normals = false; colours = true; texture = true; lines = true }) [] (0 ∷ 0 ∷ 0 ∷ 10 ∷ []) (0 ∷ 11 ∷ []) 0
    ≡ 32 ∷ 99 ∷ 32 ∷ 48 ∷ 48 ∷ 48 ∷ 48 ∷ 48 ∷ 48 ∷ 48 ∷ 48 ∷ 32 ∷ 48 ∷ 48 ∷ 48 ∷ 48 ∷ 48 ∷ 48 ∷ 48 ∷ 48 ∷ 32 ∷ 48 ∷ 48 ∷ 48 ∷ 48 ∷ 48 ∷ 48 ∷ 48 ∷ 48 ∷ 32 ∷ 48 ∷ 48 ∷ 48 ∷ 48 ∷ 48 ∷ 48 ∷ 48 ∷ 97 ∷ 32 ∷ 117 ∷ 32 ∷ 48 ∷ 48 ∷ 48 ∷ 48 ∷ 48 ∷ 48 ∷ 48 ∷ 48 ∷ 32 ∷ 48 ∷ 48 ∷ 48 ∷ 48 ∷ 48 ∷ 48 ∷ 48 ∷ 98 ∷ [])
    × (line_line (7 ∷ 10 ∷ []) 0 ≡ 108 ∷ 32 ∷ 55 ∷ 32 ∷ 49 ∷ 48 ∷ 10 ∷ [])
unfolding made_text element_line attribute fields word_field number_field hexadecimal decimal digits digit_byte tab flat
lines = (refl, refl)
