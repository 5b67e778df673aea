-- FORMAT 9.1: a word is the bits of an f32. Words as lists, and as floats where arithmetic needs them.
use Rattle.std.specs.Prelude.{List, [], ◌∷◌, ℕ, ◌+◌, ◌*◌, get_or}
use Rattle.std.specs.Float.{binary32}
use Rattle.std.specs.Float.Ieee.{of_bits, to_bits}
use Rattle.bits.specs.declared.Words2.{Words2}
use Rattle.bits.specs.declared.Words3.{Words3}
use Rattle.bits.specs.declared.Words4.{Words4}
use Rattle.math.specs.declared.vector.V3.{V3}
use Rattle.math.specs.Vector.{v3}

-- FORMAT 11: the words of a texture point, of a point or normal, and of a colour, as lists
abbrev pub words2 : Words2 → List ℕ
words2 w = w.s ∷ w.t ∷ []

abbrev pub words3 : Words3 → List ℕ
words3 w = w.x ∷ w.y ∷ w.z ∷ []

abbrev pub words4 : Words4 → List ℕ
words4 w = w.r ∷ w.g ∷ w.b ∷ w.a ∷ []

-- FORMAT 11, PolyMesh::build (key): the words of an attribute that is not there
abbrev pub no2 : Words2
no2 = record { s = 0; t = 0 }

abbrev pub no3 : Words3
no3 = record { x = 0; y = 0; z = 0 }

abbrev pub no4 : Words4
no4 = record { r = 0; g = 0; b = 0; a = 0 }

-- FORMAT 9.1: three words as f32
abbrev pub floats : Words3 → V3
floats w = v3 (of_bits binary32 w.x) (of_bits binary32 w.y) (of_bits binary32 w.z)

-- FORMAT 9.1: what arithmetic made goes back to words; a NaN is 7fc00000
abbrev pub bits : V3 → Words3
bits v = record { x = to_bits binary32 v.x; y = to_bits binary32 v.y; z = to_bits binary32 v.z }

-- FORMAT 2.4: the words of point p, of a list of three words a point
unfoldable pub point_words : List ℕ → ℕ → Words3
point_words points p = record { x = get_or points (p * 3) 0; y = get_or points (p * 3 + 1) 0; z = get_or points (p * 3 + 2) 0 }
