use Rattle.parts.specs.Cap.{cap_at, cap_part}
use Rattle.lists.proofs.Options.{if_there}
use Rattle.parts.proofs.Parting.{written_there}
use Rattle.parts.specs.declared.round.Round.{Round}
use Rattle.cone.specs.Cone.{cone_side, cone_side_at}
use Rattle.cone.proofs.Sides.{side_room, lower_low, lower_room, all_written}
use Rattle.cone.proofs.whole.put_cone.Goals as goal

pub put_side_at-requires : goal.put_side_at-requires
put_side_at-requires c = if_there _ _ c.then_some.ensures _ (λ e. (side_room c.args.pairs.now c.args.k.r c.args.k.height c.args.k.n c.args.side c.args.bottom c.args.k.few c.requires.0 c.requires.1 e))

pub put_cap_at-requires : goal.put_cap_at-requires
unfolding cone_side_at
put_cap_at-requires c =
    if_there _ _ c.then_some-2.ensures _ (λ e. (lower_low c.args.pairs.now c.args.k.r c.args.k.height c.args.k.n c.args.side c.args.bottom c.args.k.few c.requires.0, lower_room c.args.pairs.now c.args.k.r c.args.k.height c.args.k.n c.args.side c.args.bottom c.args.k.few c.requires.0 c.requires.1 (written_there c.args.side c.args.k c.then_some.ensures (λ (k : Round). cone_side c.args.pairs.now k.r k.height k.n) (λ k. 0) c.put_side_at.ensures) e))

pub returns : goal.returns
unfolding cone_side_at cap_at
returns c =
    all_written c.args.pairs.now c.args.k.r c.args.k.height c.args.k.n c.args.side c.args.bottom c.args.k.few c.requires.0 c.requires.1 (written_there c.args.side c.args.k c.then_some.ensures (λ (k : Round). cone_side c.args.pairs.now k.r k.height k.n) (λ k. 0) c.put_side_at.ensures) (written_there c.args.bottom _ c.then_some-2.ensures (cap_part c.args.pairs.now) (λ k. k.first) c.put_cap_at.ensures)
