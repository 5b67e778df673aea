-- FORMAT 8: a soup is what face sets, grids and extrusions make: what the faces share, and a list of faces (PolyMesh).
-- A run that is skipped is a face with no corners, so a face's number is its place in the list.
use Rattle.std.specs.Prelude.{Bool, cond, List, [], ◌∷◌, map, ℕ, zero, suc, ◌-◌, ◌%◌, eqb}
use Rattle.bits.specs.declared.Words2.{Words2}
use Rattle.bits.specs.declared.Words3.{Words3}
use Rattle.bits.specs.declared.Words4.{Words4}
use Rattle.block.specs.declared.crease.CreaseRule.{CreaseRule}
use Rattle.mesh.specs.Words.{no2, no3, no4}

-- FORMAT 8: `gather` is the number by which faces are gathered for normals (FORMAT 10.2), `given` the normal supplied
pub record Corner : Type 0 where
  pub point : ℕ
  pub gather : ℕ
  pub given : Words3
  pub colour : Words4
  pub texture : Words2

-- read beyond a face's last corner, which never happens
abbrev pub no_corner : Corner
no_corner = record { point = 0; gather = 0; given = no3; colour = no4; texture = no2 }

-- FORMAT 10.2: the number by which corners at point p are gathered, where points stand in rings of `ring`: the last of a ring bears the number of its first.
-- 0 is for no rings
unfoldable pub gathered : ℕ → ℕ → ℕ
gathered zero p = p
gathered (suc k) p = cond (eqb (p % suc k) k) (p - k) p

-- FORMAT 8: the corners in order
abbrev pub Face : Type 0
Face = List Corner

-- FORMAT 10.1: the points that a face names
abbrev pub points_of : Face → List ℕ
points_of f = map (λ (c : Corner). c.point) f

-- FORMAT 6.2: the kept faces alone, numbered without gaps, as PolyMesh has them
unfoldable pub dense : List Face → List Face
dense [] = []
dense ([] ∷ fs) = dense fs
dense ((c ∷ cs) ∷ fs) = (c ∷ cs) ∷ dense fs

-- FORMAT 8, PolyMesh: the points' words, three a point; ISO/IEC 14772-1, 4.6.3.4 (ccw, convex) and 4.6.3.5 (crease); whether normals are supplied
pub record Frame : Type 0 where
  pub points : List ℕ
  pub ccw : Bool
  pub convex : Bool
  pub supplied : Bool
  pub crease : CreaseRule
