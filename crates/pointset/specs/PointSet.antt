-- FORMAT 17.5, 17.10, 17.11, point_set: the points of a list as they are, with their colours where there are enough. ISO/IEC 14772-1, 6.36.
use Rattle.std.specs.Prelude.{ℕ, ◌+◌, ◌*◌, ◌/◌, ◌≡◌, Bool, true, ◌&&◌, cond, List, [], ◌∷◌, leb, ltb, length, get_or}
use Rattle.bits.specs.declared.Words4.{Words4}
use Rattle.lists.specs.Loops.{tab}
use Rattle.block.specs.declared.refusal.Refusal.TheVariants.{Corners, Buffer}
use Rattle.block.specs.Edition.{edition1}
use Rattle.block.specs.Refusal.{Row, row, first_of}
use Rattle.block.specs.Value.{opaque_of}
use Rattle.mesh.specs.Words.{point_words}
use Rattle.mesh.specs.Mesh.{Mesh, Slices, slices_of}
use Rattle.mesh.specs.Result.{Result}
use Rattle.lent.specs.Answer.{Answer}
use Rattle.lent.specs.Answer.{saying, said, after_all}
use Rattle.parts.specs.Parted.{is_short_for}

-- FORMAT 17.5: the full points of a list of words
abbrev pub points_in : List ℕ → ℕ
points_in points = length points / 3

-- FORMAT 17.5, colors_of: the full colours, of four words with alpha, else of three
abbrev pub colours_in : Bool → List ℕ → ℕ
colours_in alpha listed = length listed / cond alpha 4 3

-- FORMAT 17.5, point_set (filter): colours are made where they are present and there are at least as many as points
unfoldable pub makes_colours : List ℕ → Bool → Bool → List ℕ → Bool
makes_colours points has alpha listed = has && leb (points_in points) (colours_in alpha listed)

-- FORMAT 17.5, colors_of: colour k, with alpha 1 where it has three words
unfoldable pub colour_at : Bool → List ℕ → ℕ → Words4
colour_at alpha listed k =
    cond alpha
    (record { r = get_or listed (k * 4) 0; g = get_or listed (k * 4 + 1) 0; b = get_or listed (k * 4 + 2) 0; a = get_or listed (k * 4 + 3) 0 })
    (opaque_of (point_words listed k))

-- FORMAT 17.5, point_set: the mesh of points, whether colours are present, whether they have alpha, and colours
unfoldable pub point_set_mesh : List ℕ → Bool → Bool → List ℕ → Mesh
point_set_mesh points has alpha listed =
    let n = points_in points in
    record {
      sources = tab (λ k. k) n 0;
      positions = tab (point_words points) n 0;
      normals = [];
      colours = cond (makes_colours points has alpha listed) (tab (colour_at alpha listed) n 0) [];
      textures = [];
      indices = [];
    }

-- FORMAT 17.10: the rows, in the order in which they are tested; the limit is that of a block's corners
unfoldable pub point_set_rows : List ℕ → Bool → Bool → List ℕ → Slices → List Row
point_set_rows points has alpha listed l = row Corners (ltb edition1.limit (points_in points)) ∷ row Buffer (is_short_for (slices_of (point_set_mesh points has alpha listed)) l) ∷ []

-- FORMAT 17.10: the number of the first that holds, 0 where none does
unfoldable pub point_set_number : List ℕ → Bool → Bool → List ℕ → Slices → ℕ
point_set_number points has alpha listed l = first_of (point_set_rows points has alpha listed l)

-- FORMAT 17.11, point_set: solid and unlit
unfoldable pub point_set_result : List ℕ → Bool → Bool → List ℕ → Result
point_set_result points has alpha listed = record { vertices = points_in points; indices = 0; solid = true; unlit = true; has_colours = makes_colours points has alpha listed }

-- FORMAT 17.10, 17.11: what the call promises: lent l, left m and answered r
pub record PointSetCall (points : List ℕ) (has alpha : Bool) (listed : List ℕ) (l m : Slices) (r : Answer) : Type 0 where
  pub answer : saying r ≡ said (point_set_number points has alpha listed l) (point_set_result points has alpha listed)
  pub slices : m ≡ after_all (point_set_number points has alpha listed l) (slices_of (point_set_mesh points has alpha listed)) l

-- FORMAT 17.1: the slices that it is lent
abbrev pub lent_to : List ℕ → List ℕ → List ℕ → Slices
lent_to positions colours sources = record { sources = sources; positions = positions; normals = []; colours = colours; textures = []; indices = [] }
