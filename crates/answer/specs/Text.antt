-- FORMAT 14: the program's answer to an input, as bytes.
use Rattle.std.specs.Prelude.{ℕ, List, ltb, length}
use Rattle.block.specs.declared.header.Header.{Header}
use Rattle.block.specs.Kind.{is_lines}
use Rattle.block.specs.Header.{header_of}
use Rattle.lists.specs.Loops.{pick}
use Rattle.mesh.specs.Mesh.{Slices}
use Rattle.mesh.specs.Result.{Result, makes_normals, makes_colours, makes_textures}
use Rattle.lent.specs.Answer.{Saying, refused, made, said}
use Rattle.geometry.specs.Answer.{result_for}
use Rattle.lent.specs.declared.answer.Report.{Report}
use Rattle.text.specs.declared.lines.Parts.{Parts}
use Rattle.text.specs.Answer.{mesh_text, refusal_text, long_text}
use Rattle.answer.specs.Lending.{passed, number, left}

-- FORMAT 14: the first line tells the result
abbrev pub head_of : Result → Report
head_of r = record { vertices = r.vertices; indices = r.indices; solid = r.solid; unlit = r.unlit; has_colors = r.has_colours }

-- FORMAT 5, 14: a vertex line tells what is made
abbrev pub parts_of : Header → Parts
parts_of h = record { normals = makes_normals h; colours = makes_colours h; texture = makes_textures h; lines = is_lines h.kind }

-- FORMAT 14: the text of what an answer says: a refusal's number, or the result and what is in the slices
abbrev pub text_of : Saying → Parts → Slices → List ℕ
text_of (refused n) parts S = refusal_text n
text_of (made r) parts S = mesh_text (head_of r) parts S

-- FORMAT 14: the text of a block
unfoldable pub block_text : List ℕ → List ℕ
block_text bs = text_of (said (number bs) (result_for passed bs)) (parts_of (header_of bs)) (left bs)

-- FORMAT 14: the longest input that is looked at
abbrev pub longest : ℕ
longest = 8192

-- FORMAT 14: the text of an input; one that is longer is no block
unfoldable pub answer_text : List ℕ → List ℕ
answer_text bs = pick (ltb longest (length bs)) long_text (block_text bs)
