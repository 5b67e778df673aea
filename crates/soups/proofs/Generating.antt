-- Normals supplied, or generated.
use mathlib.Core.Path.{◌≡◌, refl, ◌∙◌}
use mathlib.Core.Bool.{Bool, true, false}
use mathlib.Core.List.{List}
use Prim.Native.Nat.{ℕ, suc}
use native.Mathlib.Omega.{arith}
use lib.Ieee.{Float}
use lib.ListN.{length}
use Rattle.block.specs.declared.crease.CreaseRule.{CreaseRule}
use Rattle.tables.specs.declared.layout.Plan.{Plan}
use Rattle.lists.specs.Parts.{Kept}
use Rattle.tables.specs.Layout.{Room}
use Rattle.tables.specs.Soups.{number_in, Spread}
use Rattle.tables.proofs.Stays.{start_kept, number_kept}
use Rattle.normals.specs.Written.{Generated}
use Rattle.soups.specs.Prepared.{normals_after, Normals}

module _ (supplied : Bool) (w : List ℕ) (t : Plan) (ccw : Bool) (rule : CreaseRule) (d : List Float) where
  pub as_supplied : supplied ≡ true → Normals supplied w t ccw rule d d
  unfolding normals_after
  as_supplied e = rw e refl

  pub as_generated : supplied ≡ false → (w' : List ℕ) (e : List Float) → Generated w w' t ccw rule e → Normals supplied w t ccw rule d e
  unfolding normals_after
  as_generated q w' e G = rw q G.normals

-- what is spread is the same by the words before
pub spread_from : {v v' w : List ℕ} {t : Plan} → Kept t.owners v v' → Room (length v) t → Spread v' w t (number_in v' t) t.faces → Spread v w t (number_in v t) t.faces
spread_from {v} {v'} {w} {t} K R S = record {
  at = λ g c h lo hi.
      let a = start_kept K t g (omega arith) in
      let b = start_kept K t (suc g) (omega arith) in
      S.at g c h (omega arith) (omega arith) ∙ number_kept K t g (omega arith);
}
