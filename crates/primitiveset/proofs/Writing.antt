-- The corners of one primitive, as they are written.
use mathlib.Core.Path.{◌≡◌}
use mathlib.Core.Bool.{true}
use mathlib.Core.List.{List}
use Prim.Native.Nat.{ℕ, ◌^◌, ◌<◌}
use native.Mathlib.Omega.{arith}
use lib.ListN.{length, get_or}
use Rattle.bits.specs.Bits.{entries}
use Rattle.bits.proofs.Entries.{entries_length}
use Rattle.block.specs.declared.topology.Topology.{Topology}
use Rattle.lists.specs.Lists.{all_below}
use Rattle.lists.proofs.Lists.{All_get_or}
use Rattle.primitives.specs.Primitives.{primitive_count, places_of, primitive_of}
use Rattle.primitives.specs.Kept.{width_of}
use Rattle.lists.proofs.Below.{all_below_lem}
use Rattle.primitives.proofs.Closed.{places_long, primitive_long}
use Rattle.primitives.proofs.Counting.{count_most, places_within, entry_at}

-- the point of corner i is below the points of a kept primitive
pub point_low : (g : Topology) (es : List ℕ) (k i : ℕ) {points p w : ℕ} → i < width_of g → p ≡ get_or (places_of g k) i 0 → w ≡ get_or es p 0 → all_below points (primitive_of g es k) ≡ true → w < points
point_low g es k i {points} h ep ew e =
    let b = All_get_or (λ (w : ℕ). w < points) (primitive_of g es k) (all_below_lem points (primitive_of g es k) e) 0 i (omega (arith, primitive_long g es k)) in
    omega (arith, entry_at g es k i h ep ew)

-- and its place is in the stretch
pub place_low : (g : Topology) (n k i : ℕ) {p : ℕ} → k < primitive_count g n → i < width_of g → p ≡ get_or (places_of g k) i 0 → p < n
place_low g n k i h l e =
    let b = All_get_or (λ (j : ℕ). j < n) (places_of g k) (places_within g n k h) 0 i (omega (arith, places_long g k)) in
    omega arith

-- a slice has no more primitives than entries
pub few_here : (g : Topology) (bs : List ℕ) {k : ℕ} → k < primitive_count g (length (entries bs)) → length bs < 2 ^ 63 → k < 2 ^ 61
few_here g bs h l = omega (arith, count_most g (length (entries bs)), entries_length bs)
