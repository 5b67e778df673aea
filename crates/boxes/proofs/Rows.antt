-- FORMAT 17.6, worked out: all positions, normals, texture points and indices of the box of size (2, 2, 2); that each edge of its triangles has its way back; and where the corners of the box of size (2, 4, 6) are.
use mathlib.Core.Path.{◌≡◌, refl}
use mathlib.Core.Bool.{Bool, true, false, not, ◌&&◌}
use mathlib.Core.List.{List, [], ◌∷◌, ◌++◌}
use Prim.Native.Nat.{ℕ}
use lib.Dec.{eqb}
use lib.ListN.{get_or}
use lib.Ieee.{binary32, of_bits, to_bits, add, sub, mul, div, lt}
use Rattle.bits.specs.declared.Words2.{Words2}
use Rattle.bits.specs.declared.Words3.{Words3}
use Rattle.std.specs.Prelude.{None}
use Rattle.lists.specs.Lists.{flat}
use Rattle.lists.specs.Loops.{tab, any}
use Rattle.math.specs.declared.vector.V3.{V3}
use Rattle.math.specs.Vector.{v3, two_f}
use Rattle.parts.specs.Sizes.{dim_of}
use Rattle.parts.specs.Part.{positions_of, normals_of, uv_of, textures_of}
use Rattle.boxes.specs.Box.{finite_size, half_size, face_at, stepped, side_of, box_vert, box_face, box_tris, box_part, box_of}

-- 0, 1 and -1 as the bits of f32
abbrev zero : ℕ
zero = 0

abbrev one : ℕ
one = 0x3f80_0000

abbrev minus : ℕ
minus = 0xbf80_0000

abbrev at : ℕ → ℕ → ℕ → Words3
at x y z = record { x = x; y = y; z = z }

-- ---- (2, 2, 2)

abbrev cube : V3
cube = v3 two_f two_f two_f

-- the corners, face by face: where left and right, bottom and top, back and front are
abbrev corners_of : ℕ → ℕ → ℕ → ℕ → ℕ → ℕ → List Words3
corners_of l r b t k f =
    at l b f
    ∷ at r b f
    ∷ at r t f
    ∷ at l t f
    ∷ at r b k
    ∷ at l b k
    ∷ at l t k
    ∷ at r t k
    ∷ at r b f
    ∷ at r b k
    ∷ at r t k
    ∷ at r t f
    ∷ at l b k
    ∷ at l b f
    ∷ at l t f
    ∷ at l t k
    ∷ at l t f
    ∷ at r t f
    ∷ at r t k
    ∷ at l t k
    ∷ at l b k
    ∷ at r b k
    ∷ at r b f
    ∷ at l b f
    ∷ []

abbrev corners : List Words3
corners = corners_of minus one minus one minus one

positions : positions_of (box_of cube).verts ≡ corners
unfolding positions_of normals_of box_of box_part half_size finite_size dim_of box_face box_vert box_tris face_at stepped side_of flat tab of_bits to_bits add sub mul div lt
positions = refl

normals : normals_of (box_of cube).verts ≡ (at zero zero one) ∷ (at zero zero one) ∷ (at zero zero one) ∷ (at zero zero one) ∷ (at zero zero minus) ∷ (at zero zero minus) ∷ (at zero zero minus) ∷ (at zero zero minus) ∷ (at one zero zero) ∷ (at one zero zero) ∷ (at one zero zero) ∷ (at one zero zero) ∷ (at minus zero zero) ∷ (at minus zero zero) ∷ (at minus zero zero) ∷ (at minus zero zero) ∷ (at zero one zero) ∷ (at zero one zero) ∷ (at zero one zero) ∷ (at zero one zero) ∷ (at zero minus zero) ∷ (at zero minus zero) ∷ (at zero minus zero) ∷ (at zero minus zero) ∷ []
unfolding positions_of normals_of box_of box_part half_size finite_size dim_of box_face box_vert box_tris face_at stepped side_of flat tab of_bits to_bits add sub mul div lt
normals = refl

abbrev uv : ℕ → ℕ → Words2
uv s t = record { s = s; t = t }

-- t is written as 1 - t
abbrev side : List Words2
side = uv zero one ∷ uv one one ∷ uv one zero ∷ uv zero zero ∷ []

-- where there is no transform
textures : textures_of (record { need_uvs = true; transform = None }) (box_of cube).verts ≡ side ++ (side ++ (side ++ (side ++ (side ++ side))))
unfolding textures_of uv_of box_of box_part box_face box_vert side_of flat tab of_bits to_bits sub
textures = refl

abbrev places : List ℕ
places = 0 ∷ 1 ∷ 2 ∷ 0 ∷ 2 ∷ 3 ∷ 4 ∷ 5 ∷ 6 ∷ 4 ∷ 6 ∷ 7 ∷ 8 ∷ 9 ∷ 10 ∷ 8 ∷ 10 ∷ 11 ∷ 12 ∷ 13 ∷ 14 ∷ 12 ∷ 14 ∷ 15 ∷ 16 ∷ 17 ∷ 18 ∷ 16 ∷ 18 ∷ 19 ∷ 20 ∷ 21 ∷ 22 ∷ 20 ∷ 22 ∷ 23 ∷ []

indices : (box_of cube).indices ≡ places
unfolding positions_of normals_of box_of box_part half_size finite_size dim_of box_face box_vert box_tris face_at stepped side_of flat tab of_bits to_bits add sub mul div lt
indices = refl

-- ---- (2, 4, 6): 1, 2 and 3 from the middle

oblong : positions_of (box_of (v3 two_f (of_bits binary32 0x4080_0000) (of_bits binary32 0x40c0_0000))).verts ≡ corners_of minus one 0xc000_0000 0x4000_0000 0xc040_0000 0x4040_0000
unfolding positions_of box_of box_part half_size finite_size dim_of box_face box_vert face_at stepped flat tab of_bits to_bits add sub mul div lt
oblong = refl

-- ---- each edge of a triangle has its way back, by position

record Edge : Type 0 where
  from : ℕ
  to : ℕ

abbrev edges : List ℕ → List Edge
edges (a ∷ b ∷ c ∷ r) = record { from = a; to = b } ∷ record { from = b; to = c } ∷ record { from = c; to = a } ∷ edges r
edges (a ∷ b ∷ []) = []
edges (a ∷ []) = []
edges [] = []

abbrev same : List Words3 → ℕ → ℕ → Bool
same ps i j =
    let p = get_or ps i (at 0 0 0) in
    let q = get_or ps j (at 0 0 0) in
    eqb p.x q.x && (eqb p.y q.y && eqb p.z q.z)

abbrev goes_back : List Words3 → List Edge → Edge → Bool
goes_back ps es e = any (λ (f : Edge). same ps e.from f.to && same ps e.to f.from) es

closed : any (λ (e : Edge). not (goes_back corners (edges places) e)) (edges places) ≡ false
unfolding any
closed = refl
