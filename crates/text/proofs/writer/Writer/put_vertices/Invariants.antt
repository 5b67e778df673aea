use Rattle.text.specs.Lines.{vertex_line}
use Rattle.text.proofs.Pieces.{Going}
use Rattle.text.proofs.writer.Writer.put_vertices.Given as goal

abbrev pub invariant-loop-i : goal.invariant-loop-i
invariant-loop-i l = Going (vertex_line l.parts l.slices.sources.now l.slices.positions.now l.slices.normals.now l.slices.colours.now l.slices.textures.now) 151 l.n l.initial.self l.self l.i
