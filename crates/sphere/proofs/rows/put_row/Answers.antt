use mathlib.Core.List.{[], ◌∷◌}
use Rattle.sphere.specs.Sphere.{sphere_vert, sphere_row}
use Rattle.parts.proofs.Turning.{ones_given, rowing_ones}
use Rattle.sphere.proofs.rows.put_row.Goals as goal

pub put_verts-requires-clause-given : goal.put_verts-requires-clause-given
put_verts-requires-clause-given c =
    (λ i. sphere_vert c.args.o.r c.args.o.n c.args.o.k c.args.pairs.now c.args.j i ∷ [], ones_given _ (λ i b x p. p) c.requires.1)

pub returns : goal.returns
unfolding sphere_row
returns c = rowing_ones _ _ _ _ (c.put_verts.ensures _ (ones_given _ (λ i b x p. p) c.requires.1))
