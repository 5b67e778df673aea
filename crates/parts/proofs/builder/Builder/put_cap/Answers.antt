use mathlib.Core.List.{[], ◌∷◌}
use Rattle.parts.specs.Cap.{cap_vert, cap_tri, cap_indices, cap_part}
use Rattle.parts.proofs.Turning.{wide_given, ones_given, rowing_ones}
use Rattle.parts.proofs.Capping.{tri_wide, centre_room, ring_room, cap_places, cap_pushed}
use Rattle.parts.proofs.Building.{writes_both}
use Rattle.parts.proofs.builder.Builder.put_cap.Goals as goal

pub put_vert-requires : goal.put_vert-requires
put_vert-requires c = centre_room c.args.pairs.now c.args.k c.requires.1

pub put_verts-requires-clause-given : goal.put_verts-requires-clause-given
put_verts-requires-clause-given c =
    (λ j. cap_vert c.args.pairs.now c.args.k j ∷ [], ones_given _ (λ i b x p. p) (ring_room c.args.pairs.now c.args.k c.requires.1 c.put_vert.ensures))

pub put_words-requires-clause-given : goal.put_words-requires-clause-given
put_words-requires-clause-given c =
    (cap_tri c.args.k, wide_given 3 _ (tri_wide c.args.k) (λ i b x p. p) (cap_places c.args.pairs.now c.args.k c.requires.1 c.put_vert.ensures (c.put_verts.ensures _ (ones_given _ (λ i b x p. p) (ring_room c.args.pairs.now c.args.k c.requires.1 c.put_vert.ensures)))))

pub returns : goal.returns
unfolding cap_part cap_indices
returns c =
    writes_both
    (cap_pushed c.args.pairs.now c.args.k c.requires.1 c.put_vert.ensures c.cap_centre.ensures (rowing_ones _ _ _ _ (c.put_verts.ensures _ (ones_given _ (λ i b x p. p) (ring_room c.args.pairs.now c.args.k c.requires.1 c.put_vert.ensures)))))
    (c.put_words.ensures (cap_tri c.args.k) (wide_given 3 _ (tri_wide c.args.k) (λ i b x p. p) (cap_places c.args.pairs.now c.args.k c.requires.1 c.put_vert.ensures (c.put_verts.ensures _ (ones_given _ (λ i b x p. p) (ring_room c.args.pairs.now c.args.k c.requires.1 c.put_vert.ensures))))))
