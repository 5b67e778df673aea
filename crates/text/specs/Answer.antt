-- FORMAT 14: the text of a mesh, of a refusal, and of an input that is too long.
use Rattle.std.specs.Prelude.{ℕ, List, [], ◌∷◌, ◌++◌}
use Rattle.std.specs.Int.{from_bool}
use Rattle.lists.specs.Loops.{tab}
use Rattle.lists.specs.Lists.{flat}
use Rattle.mesh.specs.Mesh.{Slices}
use Rattle.lent.specs.declared.answer.Report.{Report}
use Rattle.text.specs.declared.lines.Parts.{Parts}
use Rattle.text.specs.Fields.{number_field}
use Rattle.text.specs.Lines.{vertex_line, element_lines}

-- FORMAT 14: "mesh" (109 101 115 104), vertices and indices
unfoldable pub counts_text : Report → List ℕ
counts_text head = 109 ∷ 101 ∷ 115 ∷ 104 ∷ (number_field head.vertices ++ number_field head.indices)

-- FORMAT 14: solid, unlit and has_colors, each 1 or 0, and the line feed
unfoldable pub flags_text : Report → List ℕ
flags_text head =
    number_field (from_bool head.solid) ++ (number_field (from_bool head.unlit) ++ (number_field (from_bool head.has_colors) ++ (10 ∷ [])))

-- FORMAT 14: the first line of a mesh
unfoldable pub head_line : Report → List ℕ
head_line head = counts_text head ++ flags_text head

-- FORMAT 14: a mesh: its first line, a line for each vertex, a line for each triangle or line
unfoldable pub mesh_text : Report → Parts → Slices → List ℕ
mesh_text head parts S =
    head_line head
    ++ (flat (tab (vertex_line parts S.sources S.positions S.normals S.colours S.textures) head.vertices 0)
    ++ element_lines parts.lines head.indices S.indices)

-- FORMAT 14: a refusal: "no" (110 111) and its number
unfoldable pub refusal_text : ℕ → List ℕ
refusal_text number = 110 ∷ 111 ∷ (number_field number ++ (10 ∷ []))

-- FORMAT 14: "long" (108 111 110 103), for an input of more than 8,192 bytes
unfoldable pub long_text : List ℕ
long_text = 108 ∷ 111 ∷ 110 ∷ 103 ∷ 10 ∷ []

-- FORMAT 14: room for the text of every answer of the program, whatever words the slices hold: 19 bytes of the first line, 256 vertex lines of 127, 384 lines of 24
unfoldable pub text_room : ℕ
text_room = 41747
