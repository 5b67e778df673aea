-- FORMAT 17.4, cap: the flat end of a cylinder or a cone.
use Rattle.std.specs.Prelude.{ℕ, ◌+◌, ◌*◌, ◌%◌, ◌≤◌, ◌<◌, ◌^◌, Bool, cond, List, [], ◌∷◌, Float}
use Rattle.std.specs.Float.{binary32}
use Rattle.std.specs.Float.Ieee.{of_bits, add, sub, mul, div}
use Rattle.math.specs.declared.vector.V3.{V3}
use Rattle.math.specs.Vector.{v3, zero_f, two_f, y_axis}
use Rattle.block.specs.declared.texture.Pair.{Pair}
use Rattle.lists.specs.Lists.{flat}
use Rattle.lists.specs.Loops.{tab}
use Rattle.parts.specs.declared.cap.Cap.{Cap}
use Rattle.parts.specs.declared.sizes.PartSizes.{PartSizes}
use Rattle.parts.specs.declared.vert.Vert.{Vert}
use Rattle.parts.specs.Ring.{ring_at}
use Rattle.parts.specs.Part.{Part, no_part}

-- f32 constants, by their bits: 0.5 and -1
abbrev pub half_f : Float
half_f = of_bits binary32 0x3f00_0000

abbrev pub minus_one_f : Float
minus_one_f = of_bits binary32 0xbf80_0000

-- FORMAT 17.4, cap (nrm)
unfoldable pub cap_normal : Bool → V3
cap_normal top = cond top y_axis (v3 zero_f minus_one_f zero_f)

-- FORMAT 17.4, cap (st): t grows towards -Z on top, towards +Z on the bottom
unfoldable pub cap_texture : Bool → Float → Float → Pair
cap_texture top x z =
    cond top
    (record { s = add binary32 half_f (div binary32 x two_f); t = sub binary32 half_f (div binary32 z two_f) })
    (record { s = add binary32 half_f (div binary32 x two_f); t = add binary32 half_f (div binary32 z two_f) })

-- FORMAT 17.4, cap (center)
unfoldable pub cap_centre : Cap → Vert
cap_centre k = record { position = v3 zero_f k.y zero_f; normal = cap_normal k.top; st = record { s = half_f; t = half_f } }

-- FORMAT 17.4, cap: vertex i of the ring; its texture is that of the unit circle
unfoldable pub cap_vert : List Float → Cap → ℕ → Vert
cap_vert ps k i =
    let q = ring_at ps (k.pair + i) in
    record { position = v3 (mul binary32 q.x k.r) k.y (mul binary32 q.z k.r); normal = cap_normal k.top; st = cap_texture k.top q.x q.z }

-- FORMAT 17.4, cap: the centre, and then the ring
unfoldable pub cap_verts : List Float → Cap → List Vert
cap_verts ps k = cap_centre k ∷ tab (cap_vert ps k) k.slices 0

-- FORMAT 17.4, cap (tri): centre, a, c on top, centre, c, a on the bottom; the ring closes
unfoldable pub cap_tri : Cap → ℕ → List ℕ
cap_tri k i =
    let a = k.first + 1 + i in
    let c = k.first + 1 + (i + 1) % k.slices in
    cond k.top (k.first ∷ a ∷ c ∷ []) (k.first ∷ c ∷ a ∷ [])

unfoldable pub cap_indices : Cap → List ℕ
cap_indices k = flat (tab (cap_tri k) k.slices 0)

-- FORMAT 17.4, cap: a part of its own
unfoldable pub cap_part : List Float → Cap → Part
cap_part ps k = record { verts = cap_verts ps k; indices = cap_indices k; pairs = k.slices }

-- FORMAT 17.4: a cap of a part of n slices, where it is there, numbered from `first` on and with the pairs from `pair` on
unfoldable pub cap_at : List Float → Bool → Float → Float → ℕ → Bool → ℕ → ℕ → Part
cap_at ps there y r n top first pair = cond there (cap_part ps (record { y = y; r = r; slices = n; top = top; first = first; pair = pair })) no_part

-- FORMAT 17.10: the sizes of a cap of n slices
unfoldable pub cap_sizes : ℕ → PartSizes
cap_sizes n = record { vertices = n + 1; indices = 3 * n; pairs = n }

-- what is asked of the numbers of a cap
pub record Numbered (k : Cap) : Type 0 where
  pub few : k.slices ≤ 1024
  pub first_low : k.first < 2 ^ 24
  pub pair_low : k.pair < 2 ^ 24
