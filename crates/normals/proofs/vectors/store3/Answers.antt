use Rattle.normals.proofs.Making.{stored}
use mathlib.Core.Path.{refl}
use borrow.Author.Rules.{rules}
use Rattle.normals.proofs.vectors.store3.Goals as goal

pub returns : goal.returns
returns c = stored _ _ _ _ _ _ c.requires (search rules) (search rules) (search rules) refl refl refl c.put_vector.ensures
