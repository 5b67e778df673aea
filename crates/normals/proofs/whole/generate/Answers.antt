use mathlib.Core.Path.{refl, ap, ◌∙◌}
use Rattle.normals.specs.Written.{spread}
use Rattle.normals.proofs.Fills.{made_front}
use Rattle.normals.proofs.Soups.{generated_all}
use Rattle.normals.proofs.Summing.{made_kept}
use Rattle.normals.proofs.whole.generate.Goals as goal

pub invariant_of-x-2 : goal.invariant_of-x-2
invariant_of-x-2 c = record { ready = (made_kept c.prepare.ensures c.share.ensures.0).ready }

pub returns : goal.returns
returns c =
    let M = made_kept c.prepare.ensures c.share.ensures.0 in
    record {
      kept = M.kept;
      normals = made_front _ _ _ _ _ 0 c.corner_normals.ensures refl ∙ ap spread (generated_all c.requires.0 M _);
    }
