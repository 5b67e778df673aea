-- FORMAT 10.2, generate_normals: what is known of sums under the cosine rule, and the corners' normals made with some left out, whose roots are taken later.
use Rattle.std.specs.Prelude.{◌≡◌, true, List, ℕ, ◌*◌, ◌-◌, ◌≤◌, ◌<◌, length, drop, Float}
use Rattle.block.specs.declared.crease.CreaseRule.{CreaseRule}
use Rattle.block.specs.declared.crease.CreaseRule.TheVariants.{Bound}
use Rattle.lists.specs.Loops.{All}
use Rattle.tables.specs.declared.layout.Plan.{Plan}
use Rattle.tables.specs.Soups.{gather_in, owner_in}
use Rattle.normals.specs.declared.sums.Known.{Known}
use Rattle.normals.specs.declared.outputs.Stop.{Stop}
use Rattle.normals.specs.Rows.{normal_in, vector, Summed}
use Rattle.normals.specs.Written.{corner_sum_in, corner_normal_in}

-- the sum k is that of each corner of its face that is gathered by its number; and where no other face was added, it is the face's own normal
pub record Told (w : List ℕ) (t : Plan) (b : Float) (k : Known) : Type 0 where
  pub sum : (c : ℕ) → c < t.count → gather_in w t c ≡ k.number.0 → owner_in w t c ≡ k.face → k.sum.total ≡ corner_sum_in w t (Bound b) c
  pub alone : k.sum.alone ≡ true → k.sum.total ≡ normal_in w t k.face

-- two sums are known, and the last is that of the corner, if it is one
pub record Stopped (w : List ℕ) (t : Plan) (b : Float) (s : Stop) : Type 0 where
  pub within : s.corner ≤ t.count
  pub before : Told w t b s.before
  pub last : Told w t b s.last
  pub number : s.corner < t.count → s.last.number.0 ≡ gather_in w t s.corner
  pub face : s.corner < t.count → s.last.face ≡ owner_in w t s.corner

-- d are the floats before and e those after: the normals of the corners below n stand in front, but for the corners hs; all else is as it was
pub record Partly (d e : List Float) (w : List ℕ) (t : Plan) (rule : CreaseRule) (n : ℕ) (hs : List ℕ) : Type 0 where
  pub size : length e ≡ length d
  pub behind : drop (3 * t.count) e ≡ drop (3 * t.count) d
  pub made : (c : ℕ) → c < n → c < t.count → All (λ (h : ℕ). c ≡ h → ⊥) hs → vector e (3 * c) ≡ corner_normal_in w t rule c
  pub summed : Summed w t rule e

-- e are the floats before and e' those after: from the normals of the corners below c, in whatever floats, to those below the corner of s
pub record Passed (e e' : List Float) (w : List ℕ) (t : Plan) (b : Float) (c : ℕ) (s : Stop) : Type 0 where
  pub stopped : Stopped w t b s
  pub rises : t.count - s.corner ≤ t.count - c
  pub size : length e' ≡ length e
  pub summed : Summed w t (Bound b) e'
  pub on : (d : List Float) (hs : List ℕ) → Partly d e w t (Bound b) c hs → Partly d e' w t (Bound b) s.corner hs
