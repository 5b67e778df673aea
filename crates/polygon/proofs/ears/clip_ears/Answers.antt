use mathlib.Core.List.{List, map}
use mathlib.Core.Path.{◌≡◌, refl, sym, ap, ◌∙◌}
use Prim.Native.Nat.{ℕ, ◌+◌, ◌-◌, ◌*◌, ◌≤◌, ◌<◌}
use native.Mathlib.Nat.{sub-zero, le-mul_of_pos_right}
use native.Mathlib.Omega.{arith}
use lib.ListN.{length, take}
use lib.Seq.{sets, length-take-le, take_all}
use Rattle.polygon.specs.Ears.{Tri, flat, turn, fan, clip, first_ear}
use Rattle.polygon.specs.Memo.{xy}
use Rattle.polygon.proofs.Lists.{clip_write, clip_short, clip_none}
use Rattle.polygon.proofs.Turns.{held_turn}
use Rattle.lists.proofs.Found.{some_found, none_found}
use Rattle.polygon.proofs.ears.clip_ears.Goals as goal

pub loop-t-init : goal.loop-t-init
loop-t-init c =
    let e : take (length c.args.order.now) c.args.order.now ≡ c.args.order.now = take_all _ c.args.order.now (omega arith) in
    (rw (sub-zero (length c.args.order.now * length c.args.order.now), sub-zero (length c.args.order.now), e), rw (sub-zero, e) c.requires.1, refl)

pub returns-in_default : goal.returns-in_default
returns-in_default c =
    let P = xy c.args.s.now.p.now in
    let n = length c.args.order.now in
    let t = c.loop-t.t in
    let l = take (n - t) c.loop-t.order in
    let e : length l ≡ n - t = length-take-le (n - t) c.loop-t.order (omega arith) in
    let F = rw c.loop-t.invariant.2 at c.first_ear.ensures.0 in
    let k : n - (n - t) ≡ t = omega arith in
    let z : clip P (n * n - t) l ≡ fan l = clip_none P (n * n - t) l (first_ear P l) refl (omega (arith, none_found _ _ (sym c.in_default.is ∙ F))) in (
      omega arith,
      ap (λ (j : ℕ). sets c.loop-t.out (j * 3) (flat (map (turn c.args.rev) (fan l)))) k
          ∙ ap (λ (q : List Tri). sets c.loop-t.out (t * 3) (flat (map (turn c.args.rev) q))) (sym z) ∙ c.loop-t.invariant.0,
    )

pub cut-requires : goal.cut-requires
cut-requires c =
    let m = length c.args.order.now - c.loop-t.t in
    let e : length (take m c.loop-t.order) ≡ m = length-take-le m c.loop-t.order (omega arith) in
    (omega (arith, (some_found _ _ c.in-Some.i (sym c.in-Some.is ∙ c.first_ear.ensures.0)).1), omega arith, omega arith)

pub loop-t-preserved : goal.loop-t-preserved
loop-t-preserved c =
    let P = xy c.args.s.now.p.now in
    let n = length c.args.order.now in
    let t = c.loop-t.t in
    let w = c.loop-t.order in
    let m = n - t in
    let hm : m ≤ length w = omega arith in
    let e : length (take m w) ≡ m = length-take-le m w hm in
    let H = c.loop-t.invariant.1 in
    let F = rw c.loop-t.invariant.2 at c.first_ear.ensures in
    let G = c.cut.ensures in
    let some = some_found _ _ c.in-Some.i (sym c.in-Some.is ∙ F.0) in
    let hi : c.in-Some.i < m = omega (arith, some.1) in
    let sq : n ≤ n * n = le-mul_of_pos_right n (omega arith) in
    let k : n - (t + 1) ≡ m - 1 = omega arith in
    rw k (
      clip_write P c.args.rev c.loop-t.out t (n * n) (take m w) c.in-Some.i (take (m - 1) c.cut.new.order) c.cut.new.out
          (omega arith) (omega arith) (omega arith) some.0 G.0.order G.3 ∙ c.loop-t.invariant.0,
      rw G.1 (held_turn P m c.in-Some.i w _ _ _ _ _ hi hm H.tells H.once F.1 G.0),
      G.2 ∙ F.2,
    )

pub returns : goal.returns
returns c =
    let P = xy c.args.s.now.p.now in
    let n = length c.args.order.now in
    let t = c.loop-t.t in
    let l = take (n - t) c.loop-t.order in
    let e : length l ≡ n - t = length-take-le (n - t) c.loop-t.order (omega arith) in
    let q : c.min.result ≡ n - t = omega arith in
    let k : n - (n - t) ≡ t = omega arith in
    let z : clip P (n * n - t) l ≡ fan l = clip_short P (n * n - t) l (omega arith) in (
      omega arith,
      ap (λ (j : ℕ). sets c.loop-t.out ((n - j) * 3) (flat (map (turn c.args.rev) (fan (take j c.loop-t.order))))) q
          ∙ ap (λ (j : ℕ). sets c.loop-t.out (j * 3) (flat (map (turn c.args.rev) (fan l)))) k
          ∙ ap (λ (q : List Tri). sets c.loop-t.out (t * 3) (flat (map (turn c.args.rev) q))) (sym z) ∙ c.loop-t.invariant.0,
    )
