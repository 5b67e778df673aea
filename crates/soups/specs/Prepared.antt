-- FORMAT 7.1, 10.2: the normals and face numbers of all corners.
use Rattle.std.specs.Prelude.{◌≡◌, Bool, true, false, List, ℕ, ◌*◌, take, Float}
use Rattle.block.specs.declared.crease.CreaseRule.{CreaseRule}
use Rattle.tables.specs.declared.layout.Plan.{Plan}
use Rattle.lists.specs.Parts.{Kept}
use Rattle.tables.specs.Soups.{number_in, soup_in, frame_in, Spread}
use Rattle.normals.specs.Written.{spread, normals_of}

-- FORMAT 10.2: what is in front of the floats: the generated normals, three floats a corner; where normals are supplied, what was there
unfoldable pub normals_after : Bool → List ℕ → Plan → Bool → CreaseRule → List Float → List Float
normals_after true w t ccw rule d = take (3 * t.count) d
normals_after false w t ccw rule d = spread (normals_of (frame_in w t ccw rule) (soup_in w t))

abbrev pub Normals : Bool → List ℕ → Plan → Bool → CreaseRule → List Float → List Float → Type 0
Normals supplied w t ccw rule d e = take (3 * t.count) e ≡ normals_after supplied w t ccw rule d

-- the tables below the owners are as they were, each corner has its face's number, and the normals are in front of the floats
pub record Prepared (supplied ccw : Bool) (rule : CreaseRule) (t : Plan) (w w' : List ℕ) (d e : List Float) : Type 0 where
  pub kept : Kept t.owners w w'
  pub numbers : Spread w w' t (number_in w t) t.faces
  pub normals : Normals supplied w t ccw rule d e
