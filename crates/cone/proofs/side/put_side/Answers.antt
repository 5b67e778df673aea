use Rattle.parts.proofs.Building.{places_after, writes_both}
use Rattle.cone.specs.Cone.{cone_verts, cone_tri, cone_side}
use Rattle.cone.proofs.side.put_side.Goals as goal

pub put_verts-requires-clause-given : goal.put_verts-requires-clause-given
unfolding cone_side
put_verts-requires-clause-given c = (cone_verts c.args.pairs.now c.args.k.r c.args.k.height c.args.k.n, record { row = λ i b x p. p; room = c.requires.vertices })

pub put_words-requires-clause-given : goal.put_words-requires-clause-given
unfolding cone_side
put_words-requires-clause-given c = (cone_tri, record { row = λ i b x p. p; room = places_after (c.put_verts.ensures (cone_verts c.args.pairs.now c.args.k.r c.args.k.height c.args.k.n) (record { row = λ i b x p. p; room = c.requires.vertices })) c.requires.places })

pub returns : goal.returns
unfolding cone_side
returns c =
    writes_both (c.put_verts.ensures (cone_verts c.args.pairs.now c.args.k.r c.args.k.height c.args.k.n) (record { row = λ i b x p. p; room = c.requires.vertices }))
    (c.put_words.ensures cone_tri (record { row = λ i b x p. p; room = places_after (c.put_verts.ensures (cone_verts c.args.pairs.now c.args.k.r c.args.k.height c.args.k.n) (record { row = λ i b x p. p; room = c.requires.vertices })) c.requires.places }))
