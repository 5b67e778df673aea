-- FORMAT 18: closed stays closed: the edges of the triangles that a call made, held against the outlines of its block's faces.
use mathlib.Core.Path.{◌≡◌, sym, subst, subst₃}
use mathlib.Core.Bool.{Bool, true, false, cond}
use mathlib.Core.List.{List}
use Prim.Native.Nat.{ℕ, ◌+◌}
use native.Mathlib.Omega.{arith}
use Rattle.bits.specs.declared.Words4.{Words4}
use Rattle.block.specs.Kind.{is_lines}
use Rattle.block.specs.Header.{header_of}
use Rattle.mesh.specs.Mesh.{Mesh, slices_of}
use Rattle.mesh.specs.Result.{made_of, made}
use Rattle.geometry.specs.declared.answer.Call.{Call}
use Rattle.geometry.specs.Apart.{AcceptedCall, elements_of}
use Rattle.geometry.proofs.Made.{elements_made}
use Rattle.closed.specs.Outlines.{Outline, outlines}
use Rattle.closed.specs.Edges.{edges_in, steps_in, gaps}
use Rattle.closed.specs.Closed.{outline_steps, SameBoundary, Paired}
use Rattle.closed.proofs.Soup.{soup_boundary}
use Rattle.closed.proofs.Outlines.{soup_of}
use Rattle.closed.proofs.Gaps.{gapless_paired, paired_gapless}

-- FORMAT 18: of the definition, whatever stands for a missing colour
pub made_boundary : (missing : Words4) (bs : List ℕ) → is_lines (header_of bs).kind ≡ false → SameBoundary bs (made missing bs)
unfolding made made_of edges_in slices_of outline_steps
made_boundary missing bs lit p q =
    let S = soup_of missing bs lit in
    subst₃
    (λ (M : Mesh) (b : Bool) (os : List Outline). edges_in (slices_of M) p q + cond b (steps_in os q p) (steps_in os p q)
    ≡ edges_in (slices_of M) q p + cond b (steps_in os p q) (steps_in os q p))
    (sym S.mesh_is) S.ccw_is S.outlines_are (soup_boundary S.frame S.faces p q)

module _ {call : Call} (bs : List ℕ) (lit : is_lines (header_of bs).kind ≡ false) (x : AcceptedCall call bs) where
  -- FORMAT 18: of a call that was not refused, whatever its slices held before
  pub same_boundary : SameBoundary bs (elements_of x)
  same_boundary = subst (SameBoundary bs) (sym (elements_made bs x)) (made_boundary call.colour bs lit)

  steps_turned : Paired (steps_in (outlines bs)) → Paired (outline_steps bs)
  unfolding outline_steps
  steps_turned h p q = go (header_of bs).ccw
    where
      go : (b : Bool) → cond b (steps_in (outlines bs) p q) (steps_in (outlines bs) q p) ≡ cond b (steps_in (outlines bs) q p) (steps_in (outlines bs) p q)
      go true = h p q
      go false = h q p

  steps_back : Paired (outline_steps bs) → Paired (steps_in (outlines bs))
  unfolding outline_steps
  steps_back h p q = go (header_of bs).ccw (h p q)
    where
      go : (b : Bool) → cond b (steps_in (outlines bs) p q) (steps_in (outlines bs) q p) ≡ cond b (steps_in (outlines bs) q p) (steps_in (outlines bs) p q)
          → steps_in (outlines bs) p q ≡ steps_in (outlines bs) q p
      go true e = e
      go false e = sym e

  -- FORMAT 18: a hall without gaps: every edge of a triangle has its way back
  pub closed_stays : gaps (outlines bs) ≡ 0 → Paired (edges_in (elements_of x))
  closed_stays z p q =
      let b : edges_in (elements_of x) p q + outline_steps bs q p ≡ edges_in (elements_of x) q p + outline_steps bs p q = same_boundary p q in
      let o : outline_steps bs p q ≡ outline_steps bs q p = steps_turned (gapless_paired (outlines bs) z) p q in
      omega arith

  -- FORMAT 18: and only such a hall
  pub closed_was : Paired (edges_in (elements_of x)) → gaps (outlines bs) ≡ 0
  closed_was h =
      paired_gapless (outlines bs)
      (steps_back (λ p q.
      let b : edges_in (elements_of x) p q + outline_steps bs q p ≡ edges_in (elements_of x) q p + outline_steps bs p q = same_boundary p q in
      let e : edges_in (elements_of x) p q ≡ edges_in (elements_of x) q p = h p q in
      omega arith))
