use mathlib.Core.Path.{refl, sym, ◌∙◌}
use Prim.Native.Nat.{◌*◌, ◌≤◌}
use native.Mathlib.Omega.{arith}
use lib.ListN.{length}
use Rattle.block.specs.declared.crease.CreaseRule.TheVariants.{Bound}
use Rattle.normals.proofs.Summing.{rows_read}
use Rattle.normals.proofs.Floats.{summed_put}
use Rattle.normals.proofs.Begun.{alone_is}
use Rattle.normals.proofs.Waiting.{part_next, part_less}
use Rattle.normals.proofs.source.Source.pass_alone.Goals as goal

pub invariant_of-near : goal.invariant_of-near
invariant_of-near c = record { mirrored = rows_read _ _ c.loop-k.invariant.2 refl }

pub loop-k-preserved : goal.loop-k-preserved
loop-k-preserved c =
    let l = c.loop-k-test.true in
    let I = c.loop-k.invariant in
    let X = c.sum_at-x.ensures in
    let room : 3 * c.args.self.now.tables.plan.now.count ≤ length c.loop-k.floats = omega (arith, c.requires.1, c.loop-k.auto.floats) in
    let own = sym (X.told.sum c.loop-k.k l (sym X.number) (sym X.face)) ∙ X.told.alone c.if-x.true in (
      I.1,
      X.told,
      summed_put _ _ _ I.2 l room c.put3.ensures,
      λ d hs P. part_next _ _ (I.3 d hs P) l room (alone_is _ _ _ _ X.face (Bound c.args.bound) _ own c.own_normal.ensures) c.put3.ensures,
    )

pub returns : goal.returns
returns c =
    let I = c.loop-k.invariant in
    record {
      stopped = record { within = omega arith; before = I.0; last = I.1; number = λ l. absurd (omega arith); face = λ l. absurd (omega arith) };
      rises = omega arith;
      size = c.loop-k.auto.floats;
      summed = I.2;
      on = λ d hs P. part_less _ _ c.loop-k-test.false (I.3 d hs P);
    }
