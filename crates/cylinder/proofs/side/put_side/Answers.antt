use Rattle.parts.proofs.Building.{places_after, writes_both}
use Rattle.parts.specs.Round.{half}
use Rattle.cylinder.specs.Cylinder.{side_verts, side_tris, side_part}
use Rattle.cylinder.proofs.side.put_side.Goals as goal

pub put_verts-requires-clause-given : goal.put_verts-requires-clause-given
unfolding side_part
put_verts-requires-clause-given c = (side_verts c.args.pairs.now c.args.k.r (half c.args.k) c.args.k.n, record { row = λ i b x p. p; room = c.requires.vertices })

pub put_words-requires-clause-given : goal.put_words-requires-clause-given
unfolding side_part
put_words-requires-clause-given c =
    (side_tris, record { row = λ i b x p. p; room = places_after (c.put_verts.ensures (side_verts c.args.pairs.now c.args.k.r (half c.args.k) c.args.k.n) (record { row = λ i b x p. p; room = c.requires.vertices })) c.requires.places })

pub returns : goal.returns
unfolding side_part
returns c =
    writes_both (c.put_verts.ensures (side_verts c.args.pairs.now c.args.k.r (half c.args.k) c.args.k.n) (record { row = λ i b x p. p; room = c.requires.vertices }))
    (c.put_words.ensures side_tris (record { row = λ i b x p. p; room = places_after (c.put_verts.ensures (side_verts c.args.pairs.now c.args.k.r (half c.args.k) c.args.k.n) (record { row = λ i b x p. p; room = c.requires.vertices })) c.requires.places }))
