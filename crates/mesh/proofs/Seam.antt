-- FORMAT 8.4, 10.2: where the cross-section of an extrusion closes, the last column is gathered with the first; both keep their own points. Else, and where
-- each face has its own normal, the mesh is the one in which every corner is gathered by its point.
use mathlib.Core.Path.{◌≡◌, refl, sym, ap, ap₂, ◌∙◌}
use mathlib.Core.Logic.{◌⊎◌, ⊎_elim}
use mathlib.Core.Bool.{Bool, true, false, ◌&&◌, cond}
use mathlib.Core.List.{List, [], ◌∷◌, ◌++◌, map}
use Prim.Native.Nat.{ℕ, suc, ◌+◌, ◌-◌, ◌*◌, ◌≤◌, ◌<◌}
use native.Mathlib.Omega.{arith}
use borrow.Author.Tests.{ltb-true, ne_eqb}
use lib.Dec.{ltb}
use lib.ListN.{length, get_or}
use lib.Ieee.{eq}
use Rattle.math.specs.Vector.{y_axis, unit_of}
use Rattle.block.specs.declared.crease.CreaseRule.{CreaseRule}
use Rattle.block.specs.declared.crease.CreaseRule.TheVariants.{Own}
use Rattle.block.specs.declared.texture.Pair.{Pair}
use Rattle.block.specs.Settings.{settings_of}
use Rattle.bits.specs.declared.Words2.{Words2}
use Rattle.polygon.specs.Points.{spots}
use Rattle.polygon.specs.Facing.{newell}
use Rattle.polygon.specs.Face.{triangles}
use Rattle.polygon.specs.Plane.{handed}
use Rattle.lists.specs.Loops.{All}
use Rattle.lists.specs.Lists.{join_n, place, firsts}
use Rattle.lists.proofs.Lists.{All_of, map_All, map_map}
use Rattle.lists.proofs.Tests.{and_left}
use Rattle.mesh.specs.Words.{bits}
use Rattle.mesh.specs.Soup.{Corner, gathered, Face, Frame}
use Rattle.mesh.specs.Normals.{outline, facing, incident, crease_sum, or_else, generated, corner_normal}
use Rattle.mesh.specs.Vertices.{Key, no_key, same_key, key_of, keys_of, vertices, wound, locals, face_indices, indices_of}
use Rattle.mesh.specs.Mesh.{mesh_of, mesh}
use Rattle.mesh.specs.Arcs.{at2}
use Rattle.mesh.specs.Extrusion.{Extrusion, extrusion_of, point_number, closes, ring_of, side_texture, cap_fit, cap_texture, corner_at, side_corner, cap_corner, extrusion_faces, extrusion_frame, extrusion_mesh}
use Rattle.mesh.specs.SourceGather.{by_point, apart_mesh}
use Rattle.mesh.proofs.Gathered.{gathered_alone, gathered_column, gathered_end}
use Rattle.mesh.proofs.Within.{extrusion_all}

-- ---- the columns

-- a cross-section that closes has more than two points
pub closes_more : (cs : List Pair) → closes cs ≡ true → 2 < length cs
unfolding closes
closes_more cs h =
    let b = eq (at2 cs 0).s (at2 cs (length cs - 1)).s && eq (at2 cs 0).t (at2 cs (length cs - 1)).t in
    ltb-true 2 (length cs) (and_left (ltb 2 (length cs)) b h)

module _ (E : Extrusion) where
  -- FORMAT 10.2: in every column but the last, corners are gathered by their points
  column_own : (i j : ℕ) → j + 1 < length E.section → gathered (ring_of E.section) (point_number (length E.section) i j) ≡ point_number (length E.section) i j
  unfolding ring_of
  column_own i j h = go (closes E.section)
    where
      go : (b : Bool) → gathered (cond b (length E.section) 0) (i * length E.section + j) ≡ i * length E.section + j
      go true = gathered_column (length E.section) i j h
      go false = gathered_alone (i * length E.section + j)

  pub side_own : (i j : ℕ) → j + 1 < length E.section → (side_corner E i j).gather ≡ point_number (length E.section) i j
  unfolding side_corner corner_at
  side_own i j h = column_own i j h

  pub cap_own : (i j : ℕ) → j + 1 < length E.section → (cap_corner E i j).gather ≡ point_number (length E.section) i j
  unfolding cap_corner corner_at
  cap_own i j h = column_own i j h

  module _ (h : closes E.section ≡ true) (i : ℕ) where
    -- FORMAT 10.2: those of the last by the first's at the same spine point
    pub side_last : (side_corner E i (length E.section - 1)).gather ≡ point_number (length E.section) i 0
    unfolding side_corner corner_at ring_of
    side_last =
        ap (λ (b : Bool). gathered (cond b (length E.section) 0) (i * length E.section + (length E.section - 1))) h
        ∙ gathered_end (length E.section) i (omega (arith, closes_more E.section h)) ∙ omega arith

    -- FORMAT 11: a vertex of the one column is never one of the other
    pub columns_apart : (F : Frame) (fs : List Face) (a b : ℕ) (f g : Face)
        → same_key (key_of F fs a f (side_corner E i 0)) (key_of F fs b g (side_corner E i (length E.section - 1))) ≡ false
    unfolding same_key key_of side_corner corner_at
    columns_apart F fs a b f g =
        rw (ne_eqb (i * length E.section + 0) (i * length E.section + (length E.section - 1)) (λ e. omega (arith, e, closes_more E.section h))) refl

-- ---- where nothing is joined

-- a corner that is gathered by its point
own_same : (c : Corner) → c.gather ≡ c.point → by_point c ≡ c
own_same c e = λ i. record { point = c.point; gather = sym e i; given = c.given; colour = c.colour; texture = c.texture }

corners_same : (f : Face) → All (λ (c : Corner). c.gather ≡ c.point) f → map by_point f ≡ f
corners_same [] h = refl
corners_same (c ∷ f) h = λ i. own_same c h.0 i ∷ corners_same f h.1 i

faces_same : (fs : List Face) → All (λ (f : Face). All (λ (c : Corner). c.gather ≡ c.point) f) fs → map (map by_point) fs ≡ fs
faces_same [] h = refl
faces_same (f ∷ fs) h = λ i. corners_same f h.0 i ∷ faces_same fs h.1 i

-- FORMAT 10.2: of an open cross-section
module _ (E : Extrusion) (h : closes E.section ≡ false) where
  open_corner : (p : ℕ) (st : Words2) → (corner_at E p st).gather ≡ p
  unfolding corner_at ring_of
  open_corner p st = ap (λ (b : Bool). gathered (cond b (length E.section) 0) p) h ∙ gathered_alone p

  open_side : (i j : ℕ) → (side_corner E i j).gather ≡ (side_corner E i j).point
  unfolding side_corner corner_at
  open_side i j = open_corner (point_number (length E.section) i j) (side_texture E i j)

  open_cap : (i j : ℕ) → (cap_corner E i j).gather ≡ (cap_corner E i j).point
  unfolding cap_corner corner_at
  open_cap i j = open_corner (point_number (length E.section) i j) (cap_texture (cap_fit E.section) (at2 E.section j))

  pub open_faces : 1 ≤ length E.spine → map (map by_point) (extrusion_faces E) ≡ extrusion_faces E
  open_faces l = faces_same (extrusion_faces E) (extrusion_all E (λ (c : Corner). c.gather ≡ c.point) (λ i j p q. open_side i j) (λ i j p q. open_cap i j) l)

-- ---- where each face has its own normal

module _ (F : Frame) where
  outline_same : (f : Face) → outline F (map by_point f) ≡ outline F f
  unfolding outline
  outline_same f = ap (spots F.points) (map_map (λ (c : Corner). c.point) by_point f)

  facing_same : (f : Face) → facing F (map by_point f) ≡ facing F f
  unfolding facing
  facing_same f = ap (λ (l : List _). handed F.ccw (newell l)) (outline_same f)

  locals_same : (f : Face) → locals F (map by_point f) ≡ locals F f
  unfolding locals
  locals_same f = λ i. wound F.ccw (triangles F.ccw F.convex (outline_same f i) (facing_same f i))

  module _ (e : F.crease ≡ Own) where
    -- the number that a corner is gathered by is not asked
    own_normal : (fs : List Face) (num : ℕ) (f : Face) (p : ℕ) → generated F fs num f p ≡ or_else (unit_of (facing F f)) (or_else (unit_of (facing F f)) y_axis)
    unfolding generated crease_sum
    own_normal fs num f p = ap (λ (r : CreaseRule). or_else (unit_of (crease_sum r num (facing F f) (incident F fs p))) (or_else (unit_of (facing F f)) y_axis)) e

    module _ (fs : List Face) where
      key_same : (num : ℕ) (f : Face) (c : Corner) → key_of F (map (map by_point) fs) num (map by_point f) (by_point c) ≡ key_of F fs num f c
      unfolding key_of corner_normal
      key_same num f c =
          let n : generated F (map (map by_point) fs) num (map by_point f) c.point ≡ generated F fs num f c.gather
          = own_normal (map (map by_point) fs) num (map by_point f) c.point ∙ ap (λ v. or_else (unit_of v) (or_else (unit_of v) y_axis)) (facing_same f) ∙ sym (own_normal fs num f c.gather) in
          λ i. record { point = c.point; normal = cond F.supplied c.given (bits (n i)); colour = c.colour; texture = c.texture }

      keys_same : (num : ℕ) (f : Face) → keys_of F (map (map by_point) fs) num (map by_point f) ≡ keys_of F fs num f
      unfolding keys_of
      keys_same num f =
          map_map (key_of F (map (map by_point) fs) num (map by_point f)) by_point f
          ∙ map_All (λ c. key_of F (map (map by_point) fs) num (map by_point f) (by_point c)) (key_of F fs num f) f (All_of (λ c. key_same num f c) f)

      join_same : {A : Type 0} (g k : ℕ → Face → List A) → ((n : ℕ) (f : Face) → g n (map by_point f) ≡ k n f) → (n : ℕ) (hs : List Face) → join_n g n (map (map by_point) hs) ≡ join_n k n hs
      unfolding join_n
      join_same g k s n [] = refl
      join_same g k s n (f ∷ hs) = ap₂ (λ (x y : List _). x ++ y) (s n f) (join_same g k s (suc n) hs)

      indices_same : (vs : List Key) (num : ℕ) (f : Face) → face_indices F (map (map by_point) fs) vs num (map by_point f) ≡ face_indices F fs vs num f
      unfolding face_indices
      indices_same vs num f = λ i. map (λ (k : ℕ). place same_key (get_or (keys_same num f i) k no_key) vs) (locals_same f i)

      pub own_mesh : mesh F (map (map by_point) fs) ≡ mesh F fs
      unfolding mesh vertices indices_of
      own_mesh =
          let v = ap (firsts same_key []) (join_same (keys_of F (map (map by_point) fs)) (keys_of F fs) keys_same 0 fs) in
          let is : (vs : List Key) → join_n (face_indices F (map (map by_point) fs) vs) 0 (map (map by_point) fs) ≡ join_n (face_indices F fs vs) 0 fs
          = λ vs. join_same (face_indices F (map (map by_point) fs) vs) (face_indices F fs vs) (indices_same vs) 0 fs in
          λ i. mesh_of F (v i) (is (v i) i)

-- FORMAT 8.4, 10.2: so for a cross-section that is open, and for a crease angle of 0 or less
pub as_before : (bs : List ℕ) → 1 ≤ length (extrusion_of bs).spine → (closes (extrusion_of bs).section ≡ false) ⊎ ((settings_of bs).crease ≡ Own) → extrusion_mesh bs ≡ apart_mesh bs
unfolding extrusion_mesh apart_mesh
as_before bs l o =
    let E = extrusion_of bs in
    let F = extrusion_frame E in
    ⊎_elim
    (λ (h : closes E.section ≡ false). ap (mesh F) (sym (open_faces E h l)))
    (λ (e : (settings_of bs).crease ≡ Own). sym (own_mesh F (crease_is ∙ e) (extrusion_faces E)))
    o
  where
    crease_is : (extrusion_frame (extrusion_of bs)).crease ≡ (settings_of bs).crease
    crease_is = unfold extrusion_frame extrusion_of in refl
