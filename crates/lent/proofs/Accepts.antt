-- FORMAT 3, 4: how large the sizes of an accepted block are, and what is lent for them.
use mathlib.Core.Path.{◌≡◌, subst}
use mathlib.Core.List.{List}
use Prim.Native.Nat.{ℕ, ◌≤◌}
use native.Mathlib.Omega.{arith}
use lib.Dec.{ltb}
use borrow.Author.Tests.{ltb-false}
use Rattle.block.specs.declared.header.Header.{Header}
use Rattle.block.specs.declared.kind.Kind.{Kind}
use Rattle.block.specs.declared.settings.Settings.{Settings}
use Rattle.block.specs.Edition.{limit_of, most}
use Rattle.block.proofs.EditionLaws.{limit_low}
use Rattle.mesh.specs.Mesh.{Slices}
use Rattle.mesh.specs.Sizes.{Sizes, sizes_of, is_over_corners}
use Rattle.lists.proofs.Tests.{or_none}
use Rattle.lent.specs.Lent.{Accepted, Enough, Asked}

module _ {bs : List ℕ} {h : Header} {s : Settings} (A : Accepted bs h s) where
  -- FORMAT 3, 7
  sizes_within : ((sizes_of bs h).points ≤ limit_of h.edition) × ((sizes_of bs h).corners ≤ limit_of h.edition)
  unfolding is_over_corners
  sizes_within =
      let e = or_none (ltb (limit_of h.edition) (sizes_of bs h).points) (ltb (limit_of h.edition) (sizes_of bs h).corners) A.corners in
      (ltb-false (limit_of h.edition) (sizes_of bs h).points e.0, ltb-false (limit_of h.edition) (sizes_of bs h).corners e.1)

  pub sizes_low : ((sizes_of bs h).points ≤ most) × ((sizes_of bs h).corners ≤ most)
  sizes_low = (omega (arith, sizes_within.0, limit_low h.edition), omega (arith, sizes_within.1, limit_low h.edition))

-- by the sizes z of its kind
module _ {k : Kind} {bs : List ℕ} {h : Header} {s : Settings} {o : Slices} {w f : ℕ} (A : Asked k bs h s o w f) {z : Sizes} (e : sizes_of bs h ≡ z) where
  pub low_by : (z.points ≤ most) × (z.corners ≤ most)
  low_by = subst (λ (z : Sizes). (z.points ≤ most) × (z.corners ≤ most)) e (sizes_low A.accepted)

  pub enough_by : Enough z o w f
  enough_by = subst (λ (z : Sizes). Enough z o w f) e A.enough
