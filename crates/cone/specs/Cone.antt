-- FORMAT 17.9, cone: its side, a triangle a slice with normals of its own, and its bottom. ISO/IEC 14772-1, 6.11.
use Rattle.std.specs.Prelude.{ℕ, ◌+◌, ◌*◌, Bool, false, cond, List, [], ◌∷◌, Float}
use Rattle.std.specs.Float.{binary32}
use Rattle.std.specs.Float.Ieee.{add, mul, div, neg}
use Rattle.math.specs.declared.vector.V3.{V3}
use Rattle.math.specs.Vector.{v3, zero_f, one_f, two_f, y_axis, unit_of}
use Rattle.lists.specs.Lists.{flat}
use Rattle.lists.specs.Loops.{tab}
use Rattle.mesh.specs.Normals.{or_else}
use Rattle.parts.specs.declared.vert.Vert.{Vert}
use Rattle.parts.specs.declared.sizes.PartSizes.{PartSizes}
use Rattle.parts.specs.Ring.{ring_at, share_of}
use Rattle.parts.specs.Sizes.{dim_of, held_to}
use Rattle.parts.specs.Part.{Part, no_part, followed}
use Rattle.parts.specs.Cap.{cap_at}

-- FORMAT 17.9, cone (nrm): at pair p, by the whole height; (0, 1, 0) where it cannot be scaled
unfoldable pub cone_normal : List Float → Float → Float → ℕ → V3
cone_normal ps r height p = let q = ring_at ps p in or_else (unit_of (v3 (mul binary32 q.x height) r (mul binary32 q.z height))) y_axis

-- FORMAT 17.9, cone: a vertex of the foot of the side, its position from pair p and its normal from pair q
unfoldable pub cone_foot : List Float → Float → Float → ℕ → ℕ → Float → Vert
cone_foot ps r height p q s =
    let x = ring_at ps p in
    record {
      position = v3 (mul binary32 x.x r) (neg (div binary32 height two_f)) (mul binary32 x.z r);
      normal = cone_normal ps r height q;
      st = record { s = s; t = zero_f };
    }

-- FORMAT 17.9, cone (apex)
unfoldable pub cone_apex : List Float → Float → Float → ℕ → Float → Vert
cone_apex ps r height q s = record { position = v3 zero_f (div binary32 height two_f) zero_f; normal = cone_normal ps r height q; st = record { s = s; t = one_f } }

-- FORMAT 17.9, cone (s0, s1, sm): slice i of n takes five pairs: s0 and s1 for the positions, s0, s1 and the middle for the normals
unfoldable pub cone_verts : List Float → Float → Float → ℕ → ℕ → List Vert
cone_verts ps r height n i =
    let s0 = share_of i n in
    let s1 = share_of (i + 1) n in
    let sm = div binary32 (add binary32 s0 s1) two_f in
    let p = 5 * i in
    cone_foot ps r height p (p + 2) s0 ∷ cone_foot ps r height (p + 1) (p + 3) s1 ∷ cone_apex ps r height (p + 4) sm ∷ []

-- FORMAT 17.9, cone (tri)
unfoldable pub cone_tri : ℕ → List ℕ
cone_tri i = (3 * i) ∷ (3 * i + 1) ∷ (3 * i + 2) ∷ []

unfoldable pub cone_side : List Float → Float → Float → ℕ → Part
cone_side ps r height n = record { verts = flat (tab (cone_verts ps r height n) n 0); indices = flat (tab cone_tri n 0); pairs = 5 * n }

-- FORMAT 17.9: where it is there
unfoldable pub cone_side_at : List Float → Bool → Float → Float → ℕ → Part
cone_side_at ps there r height n = cond there (cone_side ps r height n) no_part

-- FORMAT 17.9, cone: the side and the bottom, each where it is there
unfoldable pub cone_part : List Float → Float → Float → ℕ → Bool → Bool → Part
cone_part ps r height n side bottom = followed (cone_side_at ps side r height n) (cap_at ps bottom (neg (div binary32 height two_f)) r n false)

-- FORMAT 17.2, 17.9: with the sizes and the slices as they are read
unfoldable pub cone_of : Float → Float → Bool → Bool → ℕ → List Float → Part
cone_of radius height side bottom slices ps = cone_part ps (dim_of radius one_f) (dim_of height two_f) (held_to slices 3) side bottom

-- FORMAT 17.10: the sizes of a side of n slices
unfoldable pub cone_side_sizes : ℕ → PartSizes
cone_side_sizes n = record { vertices = 3 * n; indices = 3 * n; pairs = 5 * n }
