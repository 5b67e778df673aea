-- FORMAT 17.8, cylinder: its side, its top and its bottom. ISO/IEC 14772-1, 6.14.
use Rattle.std.specs.Prelude.{ℕ, ◌+◌, ◌*◌, Bool, true, false, cond, List, [], ◌∷◌, Float}
use Rattle.std.specs.Float.{binary32}
use Rattle.std.specs.Float.Ieee.{mul, div, neg}
use Rattle.math.specs.Vector.{v3, zero_f, one_f, two_f}
use Rattle.lists.specs.Lists.{flat}
use Rattle.lists.specs.Loops.{tab}
use Rattle.parts.specs.declared.vert.Vert.{Vert}
use Rattle.parts.specs.declared.sizes.PartSizes.{PartSizes}
use Rattle.parts.specs.Ring.{ring_at, share_of}
use Rattle.parts.specs.Sizes.{dim_of, held_to}
use Rattle.parts.specs.Part.{Part, no_part, followed}
use Rattle.parts.specs.Cap.{cap_at}

-- FORMAT 17.8, cylinder (side): of n slices, at pair i: the vertex at height y
unfoldable pub side_vert : List Float → Float → ℕ → ℕ → Float → Float → Vert
side_vert ps r n i y t =
    let q = ring_at ps i in
    record { position = v3 (mul binary32 q.x r) y (mul binary32 q.z r); normal = v3 q.x zero_f q.z; st = record { s = share_of i n; t = t } }

-- FORMAT 17.8, cylinder (side): below at -h, above at h
unfoldable pub side_verts : List Float → Float → Float → ℕ → ℕ → List Vert
side_verts ps r h n i = side_vert ps r n i (neg h) zero_f ∷ side_vert ps r n i h one_f ∷ []

-- FORMAT 17.8, cylinder (tri): the two triangles of slice i
unfoldable pub side_tris : ℕ → List ℕ
side_tris i = let a = 2 * i in a ∷ (a + 2) ∷ (a + 3) ∷ a ∷ (a + 3) ∷ (a + 1) ∷ []

unfoldable pub side_part : List Float → Float → Float → ℕ → Part
side_part ps r h n = record { verts = flat (tab (side_verts ps r h n) (n + 1) 0); indices = flat (tab side_tris n 0); pairs = n + 1 }

-- FORMAT 17.8: where it is there
unfoldable pub side_at : List Float → Bool → Float → Float → ℕ → Part
side_at ps there r h n = cond there (side_part ps r h n) no_part

-- FORMAT 17.8, cylinder: the side, the top and the bottom, each where it is there
unfoldable pub cylinder_part : List Float → Float → Float → ℕ → Bool → Bool → Bool → Part
cylinder_part ps r h n side top bottom =
    followed (followed (side_at ps side r h n) (cap_at ps top h r n true)) (cap_at ps bottom (neg h) r n false)

-- FORMAT 17.2, 17.8: with the sizes and the slices as they are read; h is half the height
unfoldable pub cylinder_of : Float → Float → Bool → Bool → Bool → ℕ → List Float → Part
cylinder_of radius height side top bottom slices ps = cylinder_part ps (dim_of radius one_f) (div binary32 (dim_of height two_f) two_f) (held_to slices 3) side top bottom

-- FORMAT 17.10: the sizes of a side of n slices
unfoldable pub side_sizes : ℕ → PartSizes
side_sizes n = record { vertices = 2 * (n + 1); indices = 6 * n; pairs = n + 1 }
