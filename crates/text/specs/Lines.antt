-- FORMAT 14: the lines of vertices, triangles and lines, each ended by a line feed (10).
use Rattle.std.specs.Prelude.{ℕ, ◌*◌, ◌/◌, Bool, true, false, List, [], ◌∷◌, ◌++◌, get_or}
use Rattle.lists.specs.Loops.{tab}
use Rattle.lists.specs.Lists.{flat}
use Rattle.text.specs.declared.lines.Parts.{Parts}
use Rattle.text.specs.Fields.{word_field, number_field, fields, attribute}

-- FORMAT 14: 'v' (118), the source and the position of vertex v
unfoldable pub place_text : (sources positions : List ℕ) → ℕ → List ℕ
place_text s p v = 118 ∷ (number_field (get_or s v 0) ++ fields word_field p (3 * v) 3)

-- FORMAT 14: where made, 'n' (110) and the normal, 'c' (99) and the colour, 'u' (117) and the texture point of vertex v
unfoldable pub made_text : Parts → (normals colours textures : List ℕ) → ℕ → List ℕ
made_text parts n c t v =
    attribute parts.normals 110 n (3 * v) 3
    ++ (attribute parts.colours 99 c (4 * v) 4 ++ attribute parts.texture 117 t (2 * v) 2)

-- FORMAT 14: the line of vertex v
unfoldable pub vertex_line : Parts → (sources positions normals colours textures : List ℕ) → ℕ → List ℕ
vertex_line parts s p n c t v = place_text s p v ++ (made_text parts n c t v ++ (10 ∷ []))

-- FORMAT 14: a letter and the i-th m of the vertex numbers
unfoldable pub element_line : ℕ → ℕ → List ℕ → ℕ → List ℕ
element_line letter m indices i = letter ∷ (fields number_field indices (m * i) m ++ (10 ∷ []))

-- FORMAT 14: triangle i: 't' (116) and three vertex numbers
abbrev pub triangle_line : List ℕ → ℕ → List ℕ
triangle_line = element_line 116 3

-- FORMAT 14: line i of a line set: 'l' (108) and two vertex numbers
abbrev pub line_line : List ℕ → ℕ → List ℕ
line_line = element_line 108 2

-- FORMAT 14: the lines of n indices: those of a line set, or triangles
unfoldable pub element_lines : Bool → ℕ → List ℕ → List ℕ
element_lines true n indices = flat (tab (line_line indices) (n / 2) 0)
element_lines false n indices = flat (tab (triangle_line indices) (n / 3) 0)
