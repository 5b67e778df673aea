-- FORMAT 12.1: triangles of corners as a slice holds them, and their vertex numbers.
use Rattle.std.specs.Prelude.{Bool, List, [], ◌∷◌, map, ℕ, zero, suc, get_or}
use Rattle.polygon.specs.Ears.{Tri, triple}
use Rattle.mesh.specs.Vertices.{wound}

-- FORMAT 12.1: the first n triangles of a list of corners, three to each
unfoldable pub threes : ℕ → List ℕ → List Tri
threes zero l = []
threes (suc n) [] = []
threes (suc n) (a ∷ []) = []
threes (suc n) (a ∷ b ∷ []) = []
threes (suc n) (a ∷ b ∷ c ∷ l) = triple a b c ∷ threes n l

-- FORMAT 12.1, PolyMesh::build (local): the corners' vertex numbers, triangle by triangle; `named` has that of each corner of the face
unfoldable pub numbered : Bool → List ℕ → List Tri → List ℕ
numbered ccw named ts = map (λ (i : ℕ). get_or named i 0) (wound ccw ts)
