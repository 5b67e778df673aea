use mathlib.Core.Path.{refl, sym, ap, ◌∙◌}
use Prim.Native.Nat.{ℕ, ◌/◌}
use native.Mathlib.Omega.{arith}
use lib.ListN.{length, take, replicate}
use lib.Seq.{length-take-le}
use Rattle.std.proofs.Common.{rules, ◌≡◌}
use Rattle.paths.proofs.Refusing.{accepted}
use Rattle.paths.proofs.Passing.{tested_call, refused_call}
use Rattle.paths.proofs.whole.test_paths.Goals as goal

pub returns-then-is_refused : goal.returns-then-is_refused
returns-then-is_refused c = refused_call _ _ _ _ (sym c.is_refused.ensures ∙ c.if-is_refused.true)

pub load-requires : goal.load-requires
load-requires c =
    (accepted c.args.positions.now c.args.indices.now c.args.paths.now (length c.args.answers.now) (sym c.is_refused.ensures ∙ c.if-is_refused.false)).few

pub slice_bounds-lent-end : goal.slice_bounds-lent-end
slice_bounds-lent-end c =
    (accepted c.args.positions.now c.args.indices.now c.args.paths.now (length c.args.answers.now) (sym c.is_refused.ensures ∙ c.if-is_refused.false)).fits

pub slice_bounds-lent-end-2 : goal.slice_bounds-lent-end-2
slice_bounds-lent-end-2 c =
    sym (length-take-le (length c.args.paths.now / 6) c.args.answers.now (accepted c.args.positions.now c.args.indices.now c.args.paths.now (length c.args.answers.now) (sym c.is_refused.ensures ∙ c.if-is_refused.false)).fits)

pub pass-requires : goal.pass-requires
pass-requires c =
    let a = accepted c.args.positions.now c.args.indices.now c.args.paths.now (length c.args.answers.now) (sym c.is_refused.ensures ∙ c.if-is_refused.false) in
    (a.inside, omega (arith, a.few, c.fill.auto.self, length-take-le (length c.args.paths.now / 6) c.args.answers.now a.fits))

pub returns : goal.returns
returns c =
    let a = accepted c.args.positions.now c.args.indices.now c.args.paths.now (length c.args.answers.now) (sym c.is_refused.ensures ∙ c.if-is_refused.false) in
    let z = length-take-le (length c.args.paths.now / 6) c.args.answers.now a.fits in
    let w : c.fill.new.self ≡ replicate (length (take (length c.args.paths.now / 6) c.args.answers.now)) 0 = search rules in
    tested_call _ _ _ _ _ c.pass.new.answers _ _ (sym c.is_refused.ensures ∙ c.if-is_refused.false) c.load.ensures (w ∙ ap (λ (k : ℕ). replicate k 0) z) (rw (c.fill.auto.self, z) at c.pass.ensures) refl
