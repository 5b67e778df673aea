-- FORMAT 4, 8.4: the listed faces have as many corners as C says, three or more each, and each corner names one of P points.
use mathlib.Core.Path.{◌≡◌, refl, ◌∙◌}
use mathlib.Core.Bool.{Bool, true, false}
use mathlib.Core.List.{List}
use Prim.Native.Nat.{ℕ, ◌+◌, ◌*◌, ◌≤◌, ◌<◌}
use native.Mathlib.Omega.{arith}
use lib.ListN.{length, length-map}
use Rattle.block.specs.declared.header.Header.{Header}
use Rattle.block.specs.Header.{header_of}
use Rattle.lists.specs.Lists.{total}
use Rattle.mesh.specs.Extrusion.{spine_count, section_count, section_of, cap_length, has_cap}
use Rattle.std.specs.Int.{from_bool}
use Rattle.mesh.specs.Sizes.{quad_count, cap_count, extrusion_sizes}
use Rattle.lists.proofs.Totals.{total_map_n}
use Rattle.tables.specs.Listed.{Listing, uses_at}
use Rattle.extrusion.specs.Listings.{face_points, use_of, extrusion_listings}
use Rattle.extrusion.proofs.Counting.{corners_count, three_there, face_full}
use Rattle.extrusion.proofs.Tabled.{listings_length, uses_length}

listed_total : (n m cap : ℕ) (b e : Bool) → total (λ (l : Listing). length l.uses) (extrusion_listings n m cap b e) ≡ total length (face_points n m cap b e)
unfolding extrusion_listings
listed_total n m cap b e = total_map_n (λ (l : Listing). length l.uses) length _ (λ k ps. length-map ps use_of) 0 (face_points n m cap b e)

-- FORMAT 4: C
pub listed_corners : (bs : List ℕ)
    → total (λ (l : Listing). length l.uses)
    (extrusion_listings (spine_count (header_of bs)) (section_count (header_of bs)) (cap_length (section_of bs (header_of bs))) (header_of bs).begin_cap (header_of bs).end_cap)
    ≡ (extrusion_sizes bs (header_of bs)).corners
unfolding extrusion_sizes
listed_corners bs = listed_total _ _ _ _ _ ∙ corners_count (spine_count (header_of bs)) (section_count (header_of bs)) (cap_length (section_of bs (header_of bs))) (header_of bs).begin_cap (header_of bs).end_cap

module _ (n m cap : ℕ) (b e : Bool) (j : ℕ) (l : j < length (extrusion_listings n m cap b e)) where
  pub listed_full : 2 ≤ m → 3 ≤ length (uses_at (extrusion_listings n m cap b e) j)
  listed_full h =
      let k : j < length (face_points n m cap b e) = rw (listings_length n m cap b e) at l in
      rw (uses_length n m cap b e j k) (face_full n m cap b e h j k)

-- FORMAT 4: a third of the corners is room for the faces
pub faces_third : (h : Header) (cap : ℕ) → (quad_count h + cap_count h cap) * 3 ≤ 4 * quad_count h + cap_count h cap * cap
faces_third h cap = go (has_cap h.begin_cap cap) (has_cap h.end_cap cap) refl refl
  where
    go : (s t : Bool) → has_cap h.begin_cap cap ≡ s → has_cap h.end_cap cap ≡ t → (quad_count h + (from_bool s + from_bool t)) * 3 ≤ 4 * quad_count h + (from_bool s + from_bool t) * cap
    go true true p q = let c = three_there cap h.begin_cap p in omega arith
    go true false p q = let c = three_there cap h.begin_cap p in omega arith
    go false true p q = let c = three_there cap h.end_cap q in omega arith
    go false false p q = omega arith
