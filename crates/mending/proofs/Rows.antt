-- FORMAT 10.3, worked: three vertices in the plane z = 0.
use mathlib.Core.Path.{◌≡◌, refl}
use mathlib.Core.List.{List, [], ◌∷◌}
use Prim.Native.Nat.{ℕ}
use lib.Ieee.{of_bits, to_bits}
use Rattle.math.specs.SquareRoot.{root_of}
use Rattle.math.specs.Vector.{vlen, unit_of}
use Rattle.math.specs.Order.{magnitude}
use Rattle.lists.specs.Loops.{tab}
use Rattle.polygon.specs.Points.{spot}
use Rattle.lists.specs.Lists.{map_n, flat}
use Rattle.mesh.specs.Words.{point_words}
use Rattle.mesh.specs.Normals.{or_else}
use Rattle.mesh.specs.Mend.{mended, mend_by, renorm, or_words, first_normal, tri_normal, vertex_spot}
use Rattle.mesh.specs.Mesh.{mesh_of}
use Rattle.mending.specs.Mend.{mended_words, lent_keys, lent_key}

-- (0, 0, 0), (1, 0, 0), (0, 1, 0)
abbrev pub corners : List ℕ
corners = 0 ∷ 0 ∷ 0 ∷ 0x3f80_0000 ∷ 0 ∷ 0 ∷ 0 ∷ 0x3f80_0000 ∷ 0 ∷ []

-- (0, 0, 2), which is scaled; (0, 0, 0), which is replaced; (0, 0, 1), which stays
abbrev pub given : List ℕ
given = 0 ∷ 0 ∷ 0x4000_0000 ∷ 0 ∷ 0 ∷ 0 ∷ 0 ∷ 0 ∷ 0x3f80_0000 ∷ []

-- of two triangles, the first usable one counts, though turned; one of no area does not
pub turned_first : mended_words corners (0 ∷ 0 ∷ 1 ∷ 0 ∷ 2 ∷ 1 ∷ 0 ∷ 1 ∷ 2 ∷ []) given 3
    ≡ 0 ∷ 0 ∷ 0x3f80_0000 ∷ 0 ∷ 0 ∷ 0xbf80_0000 ∷ 0 ∷ 0 ∷ 0x3f80_0000 ∷ []
unfolding mended_words lent_keys lent_key mesh_of map_n flat tab mended mend_by renorm or_words first_normal tri_normal vertex_spot spot point_words or_else unit_of vlen root_of magnitude of_bits to_bits lib.Ieee.add lib.Ieee.sub lib.Ieee.mul lib.Ieee.div lib.Ieee.lt
turned_first = refl

-- no triangle: straight up
pub none_up : mended_words corners [] given 3 ≡ 0 ∷ 0 ∷ 0x3f80_0000 ∷ 0 ∷ 0x3f80_0000 ∷ 0 ∷ 0 ∷ 0 ∷ 0x3f80_0000 ∷ []
unfolding mended_words lent_keys lent_key mesh_of map_n flat tab mended mend_by renorm or_words first_normal tri_normal vertex_spot spot point_words or_else unit_of vlen root_of magnitude of_bits to_bits lib.Ieee.add lib.Ieee.sub lib.Ieee.mul lib.Ieee.div lib.Ieee.lt
none_up = refl
