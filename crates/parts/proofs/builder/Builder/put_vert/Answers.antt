use mathlib.Core.Path.{refl}
use Rattle.parts.proofs.Pushing.{push_one, push_plain}
use Rattle.parts.proofs.builder.Builder.put_vert.Goals as goal

pub returns-then-self : goal.returns-then-self
returns-then-self c =
    record { kept = record { ctx = refl; positions = refl; normals = refl; textures = refl; indices = refl }; streams = push_one _ _ _ _ _ c.put_vector.ensures c.put_vector-2.ensures _ c.if-self.true c.uv_of-w.ensures c.put_all.ensures; indices = refl }

pub returns-else-self : goal.returns-else-self
returns-else-self c =
    record { kept = record { ctx = refl; positions = refl; normals = refl; textures = refl; indices = refl }; streams = push_plain _ _ _ _ _ c.put_vector.ensures c.put_vector-2.ensures _ c.if-self.false; indices = refl }
