use Rattle.std.proofs.Common.{rules}
use mathlib.Core.Path.{refl}
use Rattle.text.specs.Answer.{mesh_text}
use Rattle.text.proofs.Pieces.{then, printed}
use Rattle.text.proofs.answer.put_mesh.Goals as goal

pub returns : goal.returns
unfolding mesh_text
returns c = printed refl (then c.put_head.ensures (then c.put_vertices.ensures c.put_indices.ensures)) (search rules)
