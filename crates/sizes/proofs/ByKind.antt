-- FORMAT 3, 4: the sizes of each kind from what the code counts, and what is known of each kind.
use mathlib.Core.Path.{◌≡◌, refl, sym, ap, subst, ◌∙◌}
use mathlib.Core.Bool.{false}
use mathlib.Core.List.{List}
use Prim.Native.Nat.{ℕ, ◌+◌, ◌-◌, ◌*◌, ◌≤◌}
use native.Mathlib.Omega.{arith}
use borrow.Author.Tests.{ltb-false}
use lib.Dec.{ltb}
use lib.ListN.{get_or}
use Rattle.bits.specs.Bits.{entries}
use Rattle.block.specs.declared.header.Header.{Header}
use Rattle.block.specs.declared.runs.Totals.{Totals}
use Rattle.block.specs.Extents.{list_bytes}
use Rattle.block.specs.Runs.{Run, runs, faces, sum_over, totals}
use Rattle.block.specs.declared.topology.Topology.{Topology}
use Rattle.block.specs.declared.kind.Kind.{Kind}
use Rattle.block.specs.declared.kind.Kind.TheVariants.{Grid, Extrusion}
use Rattle.block.specs.Kind.{by_kind}
use Rattle.block.proofs.Table.{count_low}
use Rattle.primitives.specs.Primitives.{face_list}
use Rattle.mesh.specs.Extrusion.{spine_count, section_count, section_of, extrusion_of, cap_length}
use Rattle.mesh.specs.Grid.{x_dimension, z_dimension}
use Rattle.mesh.specs.Sizes as spec
use Rattle.mesh.specs.Sizes.{is_no_grid, is_no_shape}
use Rattle.tables.specs.Layout.{most}
use Rattle.extrusion.specs.Given.{Given}
use Rattle.extrusion.proofs.Blocks.{given_of, section_of_lem, section_long}
use Rattle.extrusion.proofs.Joined.{cap_fits}
use Rattle.lists.proofs.Tests.{or_none}
use Rattle.sizes.specs.declared.kinds.Sizes.{Sizes}
use Rattle.sizes.specs.Known.{Known, Sides, set_faces, primitive_faces, faces_in, Are, Counted}
use Rattle.mesh.specs.FaceSet.{point_count}

-- ---- the sizes of each kind

-- what the code makes of p points and what the runs have together
abbrev Of : ℕ → Totals → Sizes → Type 0
Of p t r = (r.points ≡ p) × (r.corners ≡ t.corners) × (r.indices ≡ 3 * t.triangles) × (r.faces ≡ t.faces)

module _ (bs : List ℕ) (h : Header) where
  -- of the runs rs
  runs_are : (rs : List Run) (t : Totals) (p : ℕ) (r : Sizes) → t ≡ totals (point_count h) rs → p ≡ point_count h → Of p t r
      → Are (spec.run_sizes (point_count h) rs) (sum_over (faces (point_count h)) rs) r
  runs_are rs t p r et ep er =
      record {
        points = er.0 ∙ ep;
        corners = er.1 ∙ ap (λ (t : Totals). t.corners) et;
        indices = er.2 ∙ ap (λ (t : Totals). 3 * t.triangles) et;
        faces = er.3 ∙ ap (λ (t : Totals). t.faces) et;
      }

  -- from the list l
  module _ (l : List ℕ) (el : l ≡ list_bytes bs h 1) where
    over_list : (f : List ℕ → ℕ) (n : ℕ) → n ≡ sum_over f (runs (entries l)) → n ≡ sum_over f (runs (entries (list_bytes bs h 1)))
    over_list f n e = e ∙ ap (λ (l : List ℕ). sum_over f (runs (entries l))) el

    pub face_set_are : (t : Totals) (p : ℕ) (r : Sizes) → t ≡ totals (point_count h) (runs (entries l)) → p ≡ point_count h → Of p t r
        → Are (spec.face_set_sizes bs h) (set_faces bs h) r
    unfolding spec.face_set_sizes set_faces
    face_set_are t p r et ep er = runs_are (spec.coord_runs bs h) t p r (et ∙ ap (λ (l : List ℕ). totals (point_count h) (runs (entries l))) el) ep er

    pub primitives_are : (g : Topology) (t : Totals) (p : ℕ) (r : Sizes) → t ≡ totals (point_count h) (runs (face_list (point_count h) g (entries l))) → p ≡ point_count h → Of p t r
        → Are (spec.primitive_sizes g bs h) (primitive_faces g bs h) r
    unfolding spec.primitive_sizes primitive_faces
    primitives_are g t p r et ep er =
        runs_are (spec.listed_runs g bs h) t p r (et ∙ ap (λ (l : List ℕ). totals (point_count h) (runs (face_list (point_count h) g (entries l)))) el) ep er

    pub line_set_are : (c n p : ℕ) → c ≡ sum_over (spec.named (point_count h)) (runs (entries l))
        → n ≡ sum_over (spec.lines_after (point_count h) false) (runs (entries l)) → p ≡ point_count h
        → Are (spec.line_set_sizes bs h) 0 (record { points = p; corners = c; indices = 2 * n; faces = 0 })
    unfolding spec.line_set_sizes
    line_set_are c n p ec en ep =
        record {
          points = ep;
          corners = over_list (spec.named (point_count h)) c ec;
          indices = ap (λ (n : ℕ). 2 * n) (over_list (spec.lines_after (point_count h) false) n en);
          faces = refl;
        }

  pub grid_are : (p q : ℕ) → p ≡ x_dimension h * z_dimension h → q ≡ spec.quad_count h → Are (spec.grid_sizes h) 0 (record { points = p; corners = 4 * q; indices = 6 * q; faces = 0 })
  unfolding spec.grid_sizes
  grid_are p q ep eq = record { points = ep; corners = ap (λ (n : ℕ). 4 * n) eq; indices = ap (λ (n : ℕ). 6 * n) eq; faces = refl }

  pub extrusion_are : (k n p q i : ℕ) → k ≡ cap_length (section_of bs h) → n ≡ spec.cap_count h k → p ≡ spine_count h * section_count h → q ≡ spec.quad_count h → i ≡ 3 * (k - 2)
      → Are (spec.extrusion_sizes bs h) 0 (record { points = p; corners = 4 * q + n * k; indices = 6 * q + n * i; faces = 0 })
  unfolding spec.extrusion_sizes
  extrusion_are k n p q i ek en ep eq ei =
      let m : n ≡ spec.cap_count h (cap_length (section_of bs h)) = en ∙ ap (spec.cap_count h) ek in
      let j : i ≡ 3 * (cap_length (section_of bs h) - 2) = ei ∙ ap (λ (k : ℕ). 3 * (k - 2)) ek in
      record { points = ep; corners = λ t. 4 * eq t + m t * ek t; indices = λ t. 6 * eq t + m t * j t; faces = refl }

  -- by kind
  pub of_kind : (r : Sizes) {k : Kind} → h.kind ≡ k
      → Are (by_kind k (spec.face_set_sizes bs h) (spec.line_set_sizes bs h) (spec.grid_sizes h) (spec.extrusion_sizes bs h) (λ g. spec.primitive_sizes g bs h)) (by_kind k (set_faces bs h) 0 0 0 (λ g. primitive_faces g bs h)) r → Counted bs h r
  unfolding spec.sizes_of faces_in
  of_kind r e A =
      subst (λ (k : Kind). Are (by_kind k (spec.face_set_sizes bs h) (spec.line_set_sizes bs h) (spec.grid_sizes h) (spec.extrusion_sizes bs h) (λ g. spec.primitive_sizes g bs h)) (by_kind k (set_faces bs h) 0 0 0 (λ g. primitive_faces g bs h)) r)
      (sym e) A

-- ---- what is known of each kind

module _ {bs : List ℕ} {h : Header} (K : Known bs h) where
  pub count_few : (k : ℕ) → get_or h.counts k 0 ≤ most
  count_few k = omega (arith, count_low K.taken k)

  pub grid_sides : h.kind ≡ Grid → Sides h
  unfolding is_no_shape
  grid_sides e =
      let s : is_no_grid h ≡ false = rw e at K.shape in
      let a = or_none (ltb (x_dimension h) 2) _ s in
      let b = or_none (ltb (z_dimension h) 2) _ a.1 in
      record { long = ltb-false _ _ a.0; wide = ltb-false _ _ b.0; length_few = count_few 0; width_few = count_few 1 }

  pub extrusion_given : h.kind ≡ Extrusion → Given bs h × Sides h
  extrusion_given e =
      let G = given_of K.taken K.header e K.shape in
      (G, record { long = G.spine; wide = G.section; length_few = count_few 0; width_few = count_few 1 })

pub cap_few : {bs : List ℕ} {h : Header} → Given bs h → Sides h → (k : ℕ) → k ≡ cap_length (section_of bs h) → k ≤ most
unfolding section_of
cap_few {bs} {h} G S k e =
    let l : cap_length (section_of bs h) ≡ cap_length (extrusion_of bs).section = ap cap_length (section_of_lem bs h G.head) in
    omega (arith, e, l, cap_fits (extrusion_of bs), section_long G, S.width_few)
