-- FORMAT 8: the mesh that a shape makes of an accepted block of its kind is the block's.
use mathlib.Core.Path.{◌≡◌, sym, ap, subst, ◌∙◌}
use mathlib.Core.List.{List}
use Prim.Native.Nat.{ℕ}
use lib.Ieee.{Float}
use Rattle.bits.specs.declared.Words4.{Words4}
use Rattle.block.specs.declared.header.Header.{Header}
use Rattle.block.specs.declared.settings.Settings.{Settings}
use Rattle.block.specs.declared.kind.Kind.{Kind}
use Rattle.block.specs.Kind.{by_kind}
use Rattle.mesh.specs.Mesh.{Slices}
use Rattle.mesh.specs.FaceSet.{face_set_mesh}
use Rattle.mesh.specs.Lines.{line_set_mesh}
use Rattle.mesh.specs.Grid.{grid_mesh}
use Rattle.mesh.specs.Extrusion.{extrusion_mesh}
use Rattle.mesh.specs.Primitives.{primitive_mesh}
use Rattle.mesh.specs.Result.{block_mesh}
use Rattle.lent.specs.declared.Counts.{Counts}
use Rattle.lent.specs.Lent.{Asked, Shaped, Cleared}

module _ {bs : List ℕ} {h : Header} {s : Settings} {o : Slices} {w f : ℕ} (A : Asked h.kind bs h s o w f) where
  pub shaped_at : (missing : Words4) {k : Kind} → h.kind ≡ k → (m : Slices) (r : Counts) (v v' : List ℕ) (g g' : List Float)
      → Shaped h (by_kind k (face_set_mesh missing bs) (line_set_mesh missing bs) (grid_mesh missing bs) (extrusion_mesh bs) (λ g. primitive_mesh missing g bs)) o m r × Cleared v v' g g'
      → Shaped h (block_mesh missing bs) o m r × Cleared v v' g g'
  unfolding block_mesh
  shaped_at missing e m r v v' g g' S = (
    subst (λ (k : Kind). Shaped h (by_kind k (face_set_mesh missing bs) (line_set_mesh missing bs) (grid_mesh missing bs) (extrusion_mesh bs) (λ g. primitive_mesh missing g bs)) o m r)
        (sym e ∙ ap (λ (h : Header). h.kind) A.accepted.header) S.0,
    S.1,
  )
