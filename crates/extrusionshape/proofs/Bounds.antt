-- FORMAT 3, 4: the counts and the sizes of an accepted extrusion, and its plan.
use mathlib.Core.Path.{◌≡◌, refl, sym, ap, ◌∙◌, subst}
use mathlib.Core.Bool.{Bool, true, false}
use mathlib.Core.List.{List}
use Prim.Native.Nat.{ℕ, ◌+◌, ◌-◌, ◌*◌, ◌≤◌}
use native.Mathlib.Omega.{arith}
use Rattle.block.specs.Edition.{most}
use Rattle.block.specs.declared.kind.Kind.TheVariants.{Extrusion}
use Rattle.block.specs.declared.header.Header.{Header}
use Rattle.block.specs.declared.settings.Settings.{Settings}
use Rattle.block.proofs.Table.{count_low}
use Rattle.mesh.specs.Mesh.{Slices}
use Rattle.mesh.specs.Extrusion.{spine_count, section_count, section_of, ring_of, cap_length, has_cap}
use Rattle.std.specs.Int.{from_bool}
use Rattle.mesh.specs.Sizes.{quad_count, cap_count, extrusion_sizes, sizes_of}
use Rattle.tables.specs.declared.layout.Plan.{Plan}
use Rattle.tables.specs.Layout.{plan_of}
use Rattle.lent.specs.Lent.{Asked}
use Rattle.lent.proofs.Accepts.{low_by}
use Rattle.shaping.specs.Tabled.{Counted, Ample}
use Rattle.shaping.proofs.Room.{ample}
use Rattle.extrusion.specs.Given.{Given}
use Rattle.extrusion.specs.Listings.{Planned}
use Rattle.extrusion.proofs.Blocks.{given_of}
use Rattle.extrusion.proofs.Joined.{planned}
use Rattle.extrusion.proofs.Counted.{faces_third}
use Rattle.lists.proofs.Numbers.{sum_product}
use Rattle.sizes.specs.declared.kinds.Sizes.{Sizes}
use Rattle.sizes.specs.Known.{Sides, Are}

-- each face of n corners makes 3 (n - 2) indices
indices_fit : (h : Header) (cap : ℕ) → 3 * (4 * quad_count h + cap_count h cap * cap - 2 * (quad_count h + cap_count h cap)) ≤ 6 * quad_count h + cap_count h cap * (3 * (cap - 2))
indices_fit h cap = go (quad_count h) (has_cap h.begin_cap cap) (has_cap h.end_cap cap)
  where
    go : (k : ℕ) (s t : Bool) → 3 * (4 * k + (from_bool s + from_bool t) * cap - 2 * (k + (from_bool s + from_bool t))) ≤ 6 * k + (from_bool s + from_bool t) * (3 * (cap - 2))
    go k true true = omega arith
    go k true false = omega arith
    go k false true = omega arith
    go k false false = omega arith

module _ {bs : List ℕ} {h : Header} {s : Settings} {o : Slices} {w f : ℕ} (A : Asked Extrusion bs h s o w f) where
  pub sizes_are : sizes_of bs h ≡ extrusion_sizes bs h
  unfolding sizes_of
  sizes_are = rw A.kind refl

  pub given : Given bs h
  given = given_of A.accepted.taken A.accepted.header A.kind A.accepted.shape

  pub net_sides : Sides h
  net_sides =
      record {
        long = given.spine;
        wide = given.section;
        length_few = omega (arith, count_low A.accepted.taken 0);
        width_few = omega (arith, count_low A.accepted.taken 1);
      }

  abbrev faces_in : ℕ
  faces_in = quad_count h + cap_count h (cap_length (section_of bs h))

  -- with the corners of a cap as the code has them
  module _ {cap : ℕ} (e : cap ≡ cap_length (section_of bs h)) where
    -- and the sizes z, q sides and n caps as it counts them
    module _ {z : Sizes} (C : Are (extrusion_sizes bs h) 0 z) {q n : ℕ} (eq : q ≡ quad_count h) (en : n ≡ cap_count h cap) where
      faces_are : q + n ≡ faces_in
      faces_are = let d : n ≡ cap_count h (cap_length (section_of bs h)) = en ∙ ap (cap_count h) e in λ i. eq i + d i

      -- what `plan_of` asks, and what it gives
      pub plan_asked : (z.points ≤ most) × (z.corners ≤ most) × (q + n ≤ most)
      unfolding extrusion_sizes
      plan_asked =
          let l = low_by A sizes_are in
          (omega (arith, C.points, l.0), omega (arith, C.corners, l.1), omega (arith, faces_are, faces_third h (cap_length (section_of bs h)), l.1))

      pub counted : {ring : ℕ} {t : Plan} → ring ≡ ring_of (section_of bs h) → t ≡ plan_of z.points z.corners (q + n) ring
          → Counted (extrusion_sizes bs h) faces_in (ring_of (section_of bs h)) t
      unfolding extrusion_sizes
      counted er p =
          let k : ℕ = cap_length (section_of bs h) in
          record { plan = p ∙ λ i. plan_of (C.points i) (C.corners i) (faces_are i) (er i); third = faces_third h k; indices = indices_fit h k }

    module _ {t : Plan} (P : Counted (extrusion_sizes bs h) faces_in (ring_of (section_of bs h)) t) where
      pub roomy : Ample (extrusion_sizes bs h) faces_in (ring_of (section_of bs h)) t w f
      roomy = ample A sizes_are P

      pub planned_at : Planned h cap w t
      planned_at = let G = roomy in subst (λ (c : ℕ). Planned h c w t) (sym e) (planned given G.room G.spots G.count G.faces)

      -- the normals, and behind them the parameters, or the rows of the faces
      pub arcs_room : 3 * t.count + (section_count h + spine_count h) ≤ f
      arcs_room = omega (arith, roomy.floats, planned_at.spots, sum_product (spine_count h) (section_count h) given.spine given.section)

      pub rows_room : 3 * t.count + 6 * t.faces ≤ f
      rows_room = omega (arith, roomy.floats)
