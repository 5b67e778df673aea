use Rattle.parts.specs.Cap.{cap_at, cap_part}
use Rattle.lists.proofs.Options.{if_there}
use Rattle.parts.proofs.Parting.{written_there}
use Rattle.parts.specs.declared.round.Round.{Round}
use Rattle.parts.specs.Round.{half}
use Rattle.cylinder.specs.Cylinder.{side_part, side_at}
use Rattle.cylinder.proofs.Sides.{side_room, upper_low, upper_room, lower_low, lower_room, all_written}
use Rattle.cylinder.proofs.whole.put_cylinder.Goals as goal

pub put_side_at-requires : goal.put_side_at-requires
put_side_at-requires c = if_there _ _ c.then_some.ensures _ (λ e. (side_room c.args.pairs.now c.args.k.r (half c.args.k) c.args.k.n c.args.side c.args.top c.args.bottom c.args.k.few c.requires.0 c.requires.1 e))

pub put_cap_at-requires : goal.put_cap_at-requires
unfolding side_at
put_cap_at-requires c =
    if_there _ _ c.then_some-2.ensures _ (λ e. (upper_low c.args.pairs.now c.args.k.r (half c.args.k) c.args.k.n c.args.side c.args.top c.args.bottom c.args.k.few c.requires.0, upper_room c.args.pairs.now c.args.k.r (half c.args.k) c.args.k.n c.args.side c.args.top c.args.bottom c.args.k.few c.requires.0 c.requires.1 (written_there c.args.side c.args.k c.then_some.ensures (λ (k : Round). side_part c.args.pairs.now k.r (half k) k.n) (λ k. 0) c.put_side_at.ensures) e))

pub put_cap_at-requires-2 : goal.put_cap_at-requires-2
unfolding side_at cap_at
put_cap_at-requires-2 c =
    if_there _ _ c.then_some-3.ensures _ (λ e. (lower_low c.args.pairs.now c.args.k.r (half c.args.k) c.args.k.n c.args.side c.args.top c.args.bottom c.args.k.few c.requires.0, lower_room c.args.pairs.now c.args.k.r (half c.args.k) c.args.k.n c.args.side c.args.top c.args.bottom c.args.k.few c.requires.0 c.requires.1 (written_there c.args.side c.args.k c.then_some.ensures (λ (k : Round). side_part c.args.pairs.now k.r (half k) k.n) (λ k. 0) c.put_side_at.ensures) (written_there c.args.top _ c.then_some-2.ensures (cap_part c.args.pairs.now) (λ k. k.first) c.put_cap_at.ensures) e))

pub returns : goal.returns
unfolding side_at cap_at
returns c =
    all_written c.args.pairs.now c.args.k.r (half c.args.k) c.args.k.n c.args.side c.args.top c.args.bottom c.args.k.few c.requires.0 c.requires.1 (written_there c.args.side c.args.k c.then_some.ensures (λ (k : Round). side_part c.args.pairs.now k.r (half k) k.n) (λ k. 0) c.put_side_at.ensures) (written_there c.args.top _ c.then_some-2.ensures (cap_part c.args.pairs.now) (λ k. k.first) c.put_cap_at.ensures) (written_there c.args.bottom _ c.then_some-3.ensures (cap_part c.args.pairs.now) (λ k. k.first) c.put_cap_at-2.ensures)
