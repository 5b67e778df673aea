-- FORMAT 13, on soups: where one face is changed, every other face shows the same, read through each mesh's own vertices.
use mathlib.Core.Path.{◌≡◌, refl, sym, ap, ◌∙◌, subst}
use mathlib.Core.Logic.{◌≢◌}
use mathlib.Core.Bool.{Bool, true, false, ◌||◌, cond, true≢false}
use mathlib.Core.List.{List, [], ◌∷◌, map}
use Prim.Native.Nat.{ℕ, ◌+◌, ◌<◌}
use borrow.Author.Tests.{eqb-true, eqb-false}
use lib.Dec.{eqb}
use lib.ListN.{length, get_or}
use Rattle.math.specs.declared.vector.V3.{V3}
use Rattle.math.specs.Vector.{y_axis, unit_of}
use Rattle.block.specs.declared.crease.CreaseRule.{CreaseRule}
use Rattle.block.specs.declared.crease.CreaseRule.TheVariants.{Own}
use Rattle.lists.specs.Loops.{All}
use Rattle.mesh.specs.Words.{words3, bits}
use Rattle.mesh.specs.Soup.{Corner, no_corner, Face, Frame}
use Rattle.mesh.specs.Normals.{facing, Hit, hits, hits_of, incident, crease_sum, or_else, generated, corner_normal}
use Rattle.mesh.specs.Vertices.{locals}
use Rattle.mesh.specs.Mend.{Usable, renorm}
use Rattle.mesh.specs.Mesh.{mesh, slices_of, shown_at, normal_at, part_of}
use Rattle.lists.proofs.Lists.{All_of, All_map, All_get_or, map_All, join_n_same}
use Rattle.mesh.proofs.Usable.{generated_usable, bits_usable}
use Rattle.mesh.proofs.Corners.{locals_within, face_shown, part_shown, part_normals}

-- whether a corner of the face is gathered under the number p
abbrev pub gathers : Face → ℕ → Bool
gathers [] p = false
gathers (c ∷ cs) p = eqb c.gather p || gathers cs p

-- when the normals of face f are out of reach of a face that is x or y: generated from its own face; or generated, and no corner of f is gathered with one
-- of x or y; or supplied, and each usable
pub data NormalsHold (F : Frame) (x y f : Face) : Type 0 where
  generated_own : F.supplied ≡ false → F.crease ≡ Own → NormalsHold F x y f
  generated_apart : F.supplied ≡ false → All (λ (c : Corner). (gathers x c.gather ≡ false) × (gathers y c.gather ≡ false)) f → NormalsHold F x y f
  supplied_usable : F.supplied ≡ true → All (λ (c : Corner). Usable c.given) f → NormalsHold F x y f

-- two soups that differ in face r alone
pub record AllBut (r : ℕ) (fs gs : List Face) : Type 0 where
  pub long : length fs ≡ length gs
  pub same : (n : ℕ) → n ≢ r → get_or fs n [] ≡ get_or gs n []

module _ (F : Frame) (fs gs : List Face) (r : ℕ) (but : AllBut r fs gs) where
  in_other : (j : ℕ) → j < length fs → j < length gs
  in_other j b = subst (λ (n : ℕ). j < n) but.long b

  pub one_face_lem : (j : ℕ) → j < length fs → j ≢ r
      → map (shown_at (slices_of (mesh F fs))) (part_of fs (mesh F fs).indices j) ≡ map (shown_at (slices_of (mesh F gs))) (part_of gs (mesh F gs).indices j)
  one_face_lem j b ne = part_shown F fs j b ∙ ap (face_shown F) (but.same j ne) ∙ sym (part_shown F gs j (in_other j b))

  -- ---- normals: a face that is not gathered under a number adds nothing there

  hits_none : (p : ℕ) (h : Hit) (g : Face) → gathers g p ≡ false → hits p h g ≡ []
  unfolding hits
  hits_none p h [] e = refl
  hits_none p h (c ∷ cs) e = go (eqb c.gather p) (λ d. hits_none p h cs d) e
    where
      go : (b : Bool) → (gathers cs p ≡ false → hits p h cs ≡ []) → (b || gathers cs p) ≡ false → cond b (h ∷ hits p h cs) (hits p h cs) ≡ []
      go true below e = absurd (true≢false e)
      go false below e = below e

  none_of : (p num : ℕ) (g : Face) → gathers g p ≡ false → hits_of F p num g ≡ []
  unfolding hits_of
  none_of p num g e = hits_none p (record { face = num; normal = facing F g }) g e

  incident_apart : (p : ℕ) → gathers (get_or fs r []) p ≡ false → gathers (get_or gs r []) p ≡ false → incident F fs p ≡ incident F gs p
  unfolding incident
  incident_apart p ef eg = join_n_same (hits_of F p) (hits_of F p) [] [] 0 fs gs but.long (λ j b. go j (eqb j r) refl)
    where
      go : (j : ℕ) (t : Bool) → eqb j r ≡ t → hits_of F p (0 + j) (get_or fs j []) ≡ hits_of F p (0 + j) (get_or gs j [])
      go j true t =
          none_of p (0 + j) (get_or fs j []) (ap (λ (k : ℕ). gathers (get_or fs k []) p) (eqb-true j r t) ∙ ef)
          ∙ sym (none_of p (0 + j) (get_or gs j []) (ap (λ (k : ℕ). gathers (get_or gs k []) p) (eqb-true j r t) ∙ eg))
      go j false t = ap (hits_of F p (0 + j)) (but.same j (eqb-false j r t))

  generated_by : ℕ → Face → CreaseRule → List Hit → V3
  generated_by num f rule hs = or_else (unit_of (crease_sum rule num (facing F f) hs)) (or_else (unit_of (facing F f)) y_axis)

  generated_own_lem : (num : ℕ) (f : Face) (p : ℕ) → F.crease ≡ Own → generated F fs num f p ≡ generated F gs num f p
  unfolding generated generated_by crease_sum
  generated_own_lem num f p e = ap (λ (u : CreaseRule). generated_by num f u (incident F fs p)) e ∙ sym (ap (λ (u : CreaseRule). generated_by num f u (incident F gs p)) e)

  generated_apart_lem : (num : ℕ) (f : Face) (p : ℕ) → gathers (get_or fs r []) p ≡ false → gathers (get_or gs r []) p ≡ false → generated F fs num f p ≡ generated F gs num f p
  unfolding generated generated_by
  generated_apart_lem num f p ef eg = ap (generated_by num f F.crease) (incident_apart p ef eg)

  -- ---- what is needed of each corner of face f

  abbrev Holds : ℕ → Face → Corner → Type 0
  Holds num f c = (corner_normal F fs num f c ≡ corner_normal F gs num f c) × Usable (corner_normal F fs num f c)

  normal_generated : (hs : List Face) (num : ℕ) (f : Face) (c : Corner) → F.supplied ≡ false → corner_normal F hs num f c ≡ bits (generated F hs num f c.gather)
  unfolding corner_normal
  normal_generated hs num f c e = ap (λ (b : Bool). cond b c.given (bits (generated F hs num f c.gather))) e

  normal_supplied : (hs : List Face) (num : ℕ) (f : Face) (c : Corner) → F.supplied ≡ true → corner_normal F hs num f c ≡ c.given
  unfolding corner_normal
  normal_supplied hs num f c e = ap (λ (b : Bool). cond b c.given (bits (generated F hs num f c.gather))) e

  holds_generated : (num : ℕ) (f : Face) (c : Corner) → F.supplied ≡ false → generated F fs num f c.gather ≡ generated F gs num f c.gather → Holds num f c
  holds_generated num f c s e = (
    normal_generated fs num f c s ∙ ap bits e ∙ sym (normal_generated gs num f c s),
    subst Usable (sym (normal_generated fs num f c s)) (bits_usable (generated F fs num f c.gather) (generated_usable F fs num f c.gather)),
  )

  holds_supplied : (num : ℕ) (f : Face) (c : Corner) → F.supplied ≡ true → Usable c.given → Holds num f c
  holds_supplied num f c s u = (
    normal_supplied fs num f c s ∙ sym (normal_supplied gs num f c s),
    subst Usable (sym (normal_supplied fs num f c s)) u,
  )

  all_hold : (num : ℕ) (f : Face) → NormalsHold F (get_or fs r []) (get_or gs r []) f → All (Holds num f) f
  all_hold num f (generated_own s e) = All_of (λ (c : Corner). holds_generated num f c s (generated_own_lem num f c.gather e)) f
  all_hold num f (generated_apart s h) = All_map (λ (c : Corner) k. holds_generated num f c s (generated_apart_lem num f c.gather k.0 k.1)) f h
  all_hold num f (supplied_usable s h) = All_map (λ (c : Corner) u. holds_supplied num f c s u) f h

  pub one_face_normals : (j : ℕ) → j < length fs → j ≢ r → NormalsHold F (get_or fs r []) (get_or gs r []) (get_or fs j [])
      → map (normal_at (slices_of (mesh F fs))) (part_of fs (mesh F fs).indices j) ≡ map (normal_at (slices_of (mesh F gs))) (part_of gs (mesh F gs).indices j)
  one_face_normals j b ne nh =
      let f : Face = get_or fs j [] in
      let e : f ≡ get_or gs j [] = but.same j ne in
      let hold : All (Holds j f) f = all_hold j f nh in
      let at : List Face → Face → ℕ → List ℕ = λ (hs : List Face) (f : Face) (i : ℕ). words3 (renorm (corner_normal F hs j f (get_or f i no_corner))) in
      part_normals F fs j b (All_map (λ (c : Corner) k. k.1) f hold)
      ∙ map_All (at fs f) (at gs f) (locals F f)
      (All_map (λ (i : ℕ) k. ap (λ n. words3 (renorm n)) (All_get_or (Holds j f) f hold no_corner i k).0) (locals F f) (locals_within F f))
      ∙ ap (λ (z : Face). map (at gs z) (locals F z)) e
      ∙ sym (part_normals F gs j (in_other j b)
      (subst (λ (z : Face). All (λ (c : Corner). Usable (corner_normal F gs j z c)) z) e (All_map (λ (c : Corner) k. subst Usable k.0 k.1) f hold)))
