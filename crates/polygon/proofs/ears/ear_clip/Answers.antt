use mathlib.Core.Path.{◌≡◌, sym, ap, ◌∙◌}
use mathlib.Core.List.{List, map}
use Prim.Native.Nat.{◌/◌}
use native.Mathlib.Omega.{arith}
use borrow.Author.Rules.{rules}
use lib.Ieee.{Float, lt}
use lib.ListN.{length}
use lib.Seq.{sets}
use Rattle.polygon.specs.Ears.{Tri, +0, is_reversed, order, flat, turn}
use Rattle.lists.proofs.Loops.{full_of}
use Rattle.polygon.proofs.Turns.{held_start}
use Rattle.polygon.proofs.Whole.{whole}
use Rattle.polygon.proofs.ears.ear_clip.Goals as goal

pub clip_all-requires : goal.clip_all-requires
clip_all-requires c =
    let n = length c.args.p.now / 2 in
    let lo : length c.set_order.new.idx ≡ n = omega (arith, c.set_order.auto.idx, c.split_at_mut-order.ensures.front_len) in
    let ll : length c.fill.new.self ≡ n = omega (arith, c.fill.auto.self, c.split_at_mut-left.ensures.front_len) in
    (omega arith, held_start _ n _ _ _ _ (c.set_order.ensures ∙ ap (order _) c.split_at_mut-order.ensures.front_len) ll (full_of 1 n _ (search rules)) (full_of 0 _ _ (search rules)))

pub returns : goal.returns
unfolding is_reversed
returns c =
    let n = length c.args.p.now / 2 in
    let lo : length c.set_order.new.idx ≡ n = omega (arith, c.set_order.auto.idx, c.split_at_mut-order.ensures.front_len) in
    c.clip_all.ensures
    ∙ whole c.args.p.now n _ _ _ _ (ap (λ (y : Float). lt y +0) c.area_of-rev.ensures) lo (c.set_order.ensures ∙ ap (order _) c.split_at_mut-order.ensures.front_len)

pub returns-then-n-eq4 : goal.returns-then-n-eq4
unfolding is_reversed
returns-then-n-eq4 c =
    let n = length c.args.p.now / 2 in
    let e : 4 ≡ n = omega (arith, c.if-n-eq4.true) in
    c.put_both.ensures
    ∙ ap (λ (q : List Tri). sets c.args.out.now 0 (flat (map (turn (lt c.area_of-rev.result +0)) q))) (sym c.place_of_ear.ensures.1)
    ∙ whole c.args.p.now n 4 _ _ _ (ap (λ (y : Float). lt y +0) c.area_of-rev.ensures) e (ap (order _) e)
