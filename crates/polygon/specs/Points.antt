-- Points as words: three a point, each the bits of an f32.
use Rattle.std.specs.Prelude.{List, map, ℕ, ◌+◌, ◌*◌, get_or}
use Rattle.std.specs.Float.{binary32}
use Rattle.std.specs.Float.Ieee.{of_bits}
use Rattle.math.specs.declared.vector.V3.{V3}
use Rattle.math.specs.Vector.{v3}

-- FORMAT 9.1: the point number p; what is past the end reads as +0
unfoldable pub spot : List ℕ → ℕ → V3
spot points p =
    v3 (of_bits binary32 (get_or points (p * 3) 0))
    (of_bits binary32 (get_or points (p * 3 + 1) 0))
    (of_bits binary32 (get_or points (p * 3 + 2) 0))

-- FORMAT 10.1, face_points: the points that a face names
unfoldable pub spots : List ℕ → List ℕ → List V3
spots points names = map (spot points) names
