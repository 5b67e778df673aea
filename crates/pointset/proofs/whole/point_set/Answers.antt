use Rattle.std.proofs.lemmas.Result.{err_from_is_err_and}
use Rattle.lists.proofs.Options.{if_there}
use Rattle.pointset.proofs.Calls.{refused_call, colours_put, roomy, made_call}
use Rattle.pointset.proofs.whole.point_set.Goals as goal

pub returns-in_err-refusal_of : goal.returns-in_err-refusal_of
returns-in_err-refusal_of c =
    let p = err_from_is_err_and c.from_residual.result c.from_residual.ensures.1 in
    rw (p.1, p.2) (refused_call c.args.points.now c.args.has_colors c.args.alpha c.args.listed.now c.args.positions.now c.args.colours.now c.args.sources.now c.makes_colours-made.ensures _ c.in_err-refusal_of.ensures)

pub copy_words-requires : goal.copy_words-requires
copy_words-requires c =
    let R = roomy c.args.points.now c.args.has_colors c.args.alpha c.args.listed.now c.args.positions.now c.args.colours.now c.args.sources.now c.makes_colours-made.ensures c.in_ok-refusal_of.ensures in (R.given, R.positions)

pub put_colours-requires : goal.put_colours-requires
put_colours-requires c =
    let R = roomy c.args.points.now c.args.has_colors c.args.alpha c.args.listed.now c.args.positions.now c.args.colours.now c.args.sources.now c.makes_colours-made.ensures c.in_ok-refusal_of.ensures in (R.few, if_there _ _ c.then_some.ensures _ (λ e. (R.enough e, R.colours e)))

pub put_sources-requires : goal.put_sources-requires
put_sources-requires c =
    let R = roomy c.args.points.now c.args.has_colors c.args.alpha c.args.listed.now c.args.positions.now c.args.colours.now c.args.sources.now c.makes_colours-made.ensures c.in_ok-refusal_of.ensures in (R.few, R.sources)

pub returns : goal.returns
returns c =
    made_call c.args.points.now c.args.has_colors c.args.alpha c.args.listed.now c.args.positions.now c.args.colours.now c.args.sources.now c.makes_colours-made.ensures c.in_ok-refusal_of.ensures c.copy_words.ensures (colours_put _ c.makes_colours-made.result _ c.args.colours.now c.then_some.ensures c.put_colours.ensures) c.put_sources.ensures
