-- FORMAT 17.6, box_prim: six faces of four vertices and two triangles. ISO/IEC 14772-1, 6.7.
use Rattle.std.specs.Prelude.{ℕ, ◌+◌, ◌*◌, Bool, ◌&&◌, ◌||◌, cond, List, [], ◌∷◌, eqb, ltb, get_or, Float}
use Rattle.std.specs.Float.{binary32}
use Rattle.std.specs.Float.Ieee.{mul, div}
use Rattle.std.specs.Float.Ieee.Scale.{finite}
use Rattle.math.specs.declared.vector.V3.{V3}
use Rattle.math.specs.Vector.{v3, zero_f, one_f, two_f, x_axis, y_axis, vadd, vsub}
use Rattle.lists.specs.Lists.{flat}
use Rattle.lists.specs.Loops.{tab}
use Rattle.parts.specs.declared.vert.Vert.{Vert}
use Rattle.parts.specs.Cap.{minus_one_f}
use Rattle.parts.specs.Sizes.{dim_of}
use Rattle.parts.specs.Part.{Part}
use Rattle.boxes.specs.declared.faces.BoxFace.{BoxFace}

-- FORMAT 17.2, fl::v3: a size with a component that is not finite is (2, 2, 2)
unfoldable pub finite_size : V3 → V3
finite_size s = cond (finite s.x && (finite s.y && finite s.z)) s (v3 two_f two_f two_f)

-- FORMAT 17.2, 17.6, box_prim (h): half the size, with 2 for a component that is not above 0
unfoldable pub half_size : V3 → V3
half_size size =
    let s = finite_size size in
    v3 (div binary32 (dim_of s.x two_f) two_f) (div binary32 (dim_of s.y two_f) two_f) (div binary32 (dim_of s.z two_f) two_f)

-- the other directions
abbrev pub z_axis : V3
z_axis = v3 zero_f zero_f one_f

abbrev pub minus_x : V3
minus_x = v3 minus_one_f zero_f zero_f

abbrev pub minus_y : V3
minus_y = v3 zero_f minus_one_f zero_f

abbrev pub minus_z : V3
minus_z = v3 zero_f zero_f minus_one_f

abbrev pub face : V3 → V3 → V3 → BoxFace
face normal right up = record { normal = normal; right = right; up = up }

-- FORMAT 17.6, box_prim (faces): outward normal, right and up of +Z, -Z, +X, -X, +Y, -Y
abbrev pub faces : List BoxFace
faces =
    face z_axis x_axis y_axis
    ∷ face minus_z minus_x y_axis
    ∷ face x_axis minus_z y_axis
    ∷ face minus_x z_axis y_axis
    ∷ face y_axis x_axis minus_z
    ∷ face minus_y x_axis z_axis
    ∷ []

-- FORMAT 17.6: face k
unfoldable pub face_at : ℕ → BoxFace
face_at k = get_or faces k (face z_axis x_axis y_axis)

-- FORMAT 17.6, box_prim (mul): component by component
abbrev pub times : V3 → V3 → V3
times v h = v3 (mul binary32 v.x h.x) (mul binary32 v.y h.y) (mul binary32 v.z h.z)

-- FORMAT 17.6: forth or back
unfoldable pub stepped : V3 → V3 → Bool → V3
stepped a d forth = cond forth (vadd a d) (vsub a d)

-- FORMAT 17.6: the corners 1 and 2 are on the right, 2 and 3 at the top
abbrev pub is_right : ℕ → Bool
is_right i = eqb i 1 || eqb i 2

abbrev pub is_top : ℕ → Bool
is_top i = ltb 1 i

-- FORMAT 17.6: a coordinate of a corner's texture point
unfoldable pub side_of : Bool → Float
side_of far = cond far one_f zero_f

-- FORMAT 17.6, box_prim (corners): corner i of the face f, with h half the size
unfoldable pub box_vert : V3 → BoxFace → ℕ → Vert
box_vert h f i =
    record {
      position = stepped (stepped (times f.normal h) (times f.right h) (is_right i)) (times f.up h) (is_top i);
      normal = f.normal;
      st = record { s = side_of (is_right i); t = side_of (is_top i) };
    }

-- FORMAT 17.6: the four corners of face k
unfoldable pub box_face : V3 → ℕ → List Vert
box_face h k = tab (box_vert h (face_at k)) 4 0

-- FORMAT 17.6, box_prim (tri): the two triangles of face k
unfoldable pub box_tris : ℕ → List ℕ
box_tris k = let a = k * 4 in a ∷ (a + 1) ∷ (a + 2) ∷ a ∷ (a + 2) ∷ (a + 3) ∷ []

-- FORMAT 17.6, box_prim, with h half the size
unfoldable pub box_part : V3 → Part
box_part h = record { verts = flat (tab (box_face h) 6 0); indices = flat (tab box_tris 6 0); pairs = 0 }

-- FORMAT 17.2, 17.6: with the size as it is read
unfoldable pub box_of : V3 → Part
box_of size = box_part (half_size size)
