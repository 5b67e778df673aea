-- FORMAT 6.4, 8.1: the listings of the kept primitives: how many, and what each has.
use mathlib.Core.Path.{◌≡◌, sym, ap, ◌∙◌}
use mathlib.Core.Bool.{true}
use mathlib.Core.List.{List, [], ◌∷◌, map, map-map}
use Prim.Native.Nat.{ℕ, suc, ◌+◌, ◌≤◌, ◌<◌}
use native.Mathlib.Omega.{arith}
use lib.ListN.{length, get_or, length-map}
use Rattle.block.specs.declared.topology.Topology.{Topology}
use Rattle.block.specs.Runs.{Run}
use Rattle.lists.specs.Loops.{All}
use Rattle.lists.specs.Lists.{map_n, all_below}
use Rattle.lists.proofs.Lists.{All_of, All_map, All_get_or, length_map_n, get_or_map_n, get_or_map_lt}
use Rattle.primitives.specs.Primitives.{stretches, places_of, primitive_of}
use Rattle.primitives.specs.Kept.{width_of, kept_over, kept_primitives}
use Rattle.lists.proofs.Below.{all_below_lem}
use Rattle.primitives.proofs.Closed.{map_over, all_over, places_long, primitive_long, width_three}
use Rattle.tables.specs.Listed.{Use, no_use, no_listing, Listing}
use Rattle.faceset.specs.Listings.{use_of}
use Rattle.faceset.specs.Adding.{points_used}
use Rattle.primitiveset.specs.Listings.{uses_of, primitive_uses, listing_of, primitive_listings}

-- ---- the corners of a primitive

module _ (g : Topology) (r : Run) (k : ℕ) where
  -- corner i
  pub used_at : (i : ℕ) → i < width_of g → get_or (uses_of g r k) i no_use ≡ use_of (r.start + get_or (places_of g k) i 0) (get_or r.items (get_or (places_of g k) i 0) 0)
  unfolding uses_of
  used_at i h = get_or_map_lt (λ (i : ℕ). use_of (r.start + i) (get_or r.items i 0)) (places_of g k) i no_use 0 (omega (arith, places_long g k))

  pub uses_points : primitive_of g r.items k ≡ points_used (uses_of g r k)
  unfolding uses_of primitive_of
  uses_points = sym (map-map (λ (u : Use). u.point) (λ (i : ℕ). use_of (r.start + i) (get_or r.items i 0)) (places_of g k))

  pub uses_long : length (uses_of g r k) ≡ width_of g
  unfolding uses_of
  uses_long = length-map (places_of g k) _ ∙ places_long g k

  -- each at a point, where the primitive is kept
  pub uses_below : (points : ℕ) → all_below points (primitive_of g r.items k) ≡ true → (i : ℕ) → i < length (uses_of g r k) → (get_or (uses_of g r k) i no_use).point < points
  uses_below points e i h =
      let s = length-map (uses_of g r k) (λ (u : Use). u.point) in
      let q : get_or (primitive_of g r.items k) i 0 ≡ (get_or (uses_of g r k) i no_use).point =
      ap (λ (l : List ℕ). get_or l i 0) uses_points ∙ get_or_map_lt (λ (u : Use). u.point) (uses_of g r k) i 0 no_use h in
      let b = All_get_or (λ (w : ℕ). w < points) (primitive_of g r.items k) (all_below_lem points (primitive_of g r.items k) e) 0 i
      (omega (arith, primitive_long g r.items k, uses_long)) in
      omega arith

-- ---- those of all

module _ (points : ℕ) (g : Topology) (ws : List ℕ) where
  -- their points are the entries of the kept primitives
  pub points_kept : map points_used (primitive_uses points g ws) ≡ kept_primitives points g ws
  unfolding primitive_uses kept_primitives
  points_kept = map_over points_used points g (uses_of g) (stretches g ws) ∙ sym (λ i. kept_over (λ r k. uses_points g r k i) points g (stretches g ws))

  pub length_uses : length (primitive_uses points g ws) ≡ length (kept_primitives points g ws)
  length_uses = sym (length-map (primitive_uses points g ws) points_used) ∙ ap length points_kept

  -- a fact of the corners of each kept primitive
  uses_all : (P : List Use → Type 0) → ((r : Run) (k : ℕ) → all_below points (primitive_of g r.items k) ≡ true → P (uses_of g r k)) → All P (primitive_uses points g ws)
  unfolding primitive_uses
  uses_all P h = all_over P points g (uses_of g) (stretches g ws) (All_of (λ r k l e. h r k e) (stretches g ws))

-- ---- the listings

-- as many as primitives are kept
pub length_listings : (points : ℕ) (g : Topology) (ws : List ℕ) → length (primitive_listings points g ws) ≡ length (kept_primitives points g ws)
unfolding primitive_listings
length_listings points g ws = length_map_n listing_of 0 (primitive_uses points g ws) ∙ length_uses points g ws

-- listing j
pub listing_at : (points : ℕ) (g : Topology) (ws : List ℕ) (j : ℕ) → j < length (kept_primitives points g ws)
    → get_or (primitive_listings points g ws) j no_listing ≡ listing_of j (get_or (primitive_uses points g ws) j [])
unfolding primitive_listings
listing_at points g ws j h =
    let z : 0 + j ≡ j = omega arith in
    get_or_map_n listing_of 0 (primitive_uses points g ws) j no_listing [] (omega (arith, length_uses points g ws))
    ∙ ap (λ (n : ℕ). listing_of n (get_or (primitive_uses points g ws) j [])) z

all_listings : (P : List Use → Type 0) (n : ℕ) (l : List (List Use)) → All P l → All (λ (s : Listing). P s.uses) (map_n listing_of n l)
unfolding map_n
all_listings P n [] h = tt
all_listings P n (us ∷ l) h = (h.0, all_listings P (suc n) l h.1)

module _ (points : ℕ) (g : Topology) (ws : List ℕ) where
  -- each with the corners of its set
  pub listings_wide : All (λ (l : Listing). length l.uses ≡ width_of g) (primitive_listings points g ws)
  unfolding primitive_listings
  listings_wide = all_listings (λ (us : List Use). length us ≡ width_of g) 0 (primitive_uses points g ws)
      (uses_all points g ws (λ (us : List Use). length us ≡ width_of g) (λ r k e. uses_long g r k))

  -- which are three or more
  pub listings_long : All (λ (l : Listing). 3 ≤ length l.uses) (primitive_listings points g ws)
  listings_long = All_map (λ l e. let w = width_three g in omega arith) (primitive_listings points g ws) listings_wide

  -- each at a point
  pub listings_below : All (λ (l : Listing). All (λ (u : Use). u.point < points) l.uses) (primitive_listings points g ws)
  unfolding primitive_listings
  listings_below = all_listings (λ (us : List Use). All (λ (u : Use). u.point < points) us) 0 (primitive_uses points g ws)
      (uses_all points g ws (λ (us : List Use). All (λ (u : Use). u.point < points) us) (λ r k e. each (uses_of g r k) (uses_below g r k points e)))
    where
      each : (us : List Use) → ((i : ℕ) → i < length us → (get_or us i no_use).point < points) → All (λ (u : Use). u.point < points) us
      each [] h = tt
      each (u ∷ us) h = (h 0 (omega arith), each us (λ i b. h (suc i) (omega arith)))
