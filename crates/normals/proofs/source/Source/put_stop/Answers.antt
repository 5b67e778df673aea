use mathlib.Core.Path.{sym, ap, ◌∙◌}
use native.Mathlib.Omega.{arith}
use Rattle.math.specs.Vector.{unit_of}
use Rattle.block.specs.declared.crease.CreaseRule.TheVariants.{Bound}
use Rattle.normals.proofs.Floats.{summed_put, vector_size}
use Rattle.normals.proofs.Begun.{normal_is}
use Rattle.normals.proofs.Waiting.{part_filled, part_none}
use Rattle.normals.proofs.source.Source.put_stop.Goals as goal

pub returns-then-s-self-clause-summed : goal.returns-then-s-self-clause-summed
returns-then-s-self-clause-summed c =
    let l = c.if-s-self.true in
    (summed_put _ _ _ c.requires.0 l c.requires.1 c.put3.ensures, vector_size _ _ _ c.put3.ensures (omega (arith, c.requires.1)))

pub returns-then-s-self-clause-filled : goal.returns-then-s-self-clause-filled
returns-then-s-self-clause-filled c =
    let l = c.if-s-self.true in
    let S = c.requires.2 in
    let sum = c.requires.3 ∙ ap unit_of (S.last.sum c.args.s.corner l (sym (S.number l)) (sym (S.face l))) in
    λ d n hs P. part_filled n _ _ P l c.requires.1 (normal_is _ _ _ _ (S.face l) (Bound c.args.bound) _ _ sum c.normal_by.ensures) c.put3.ensures

pub returns-else-s-self-clause-filled : goal.returns-else-s-self-clause-filled
returns-else-s-self-clause-filled c = λ d n hs P. part_none n c.args.s.corner c.if-s-self.false P
