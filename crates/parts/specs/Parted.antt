-- FORMAT 17.10, 17.11: what the call of a part promises: its answer, and each lent slice after it.
use Rattle.std.specs.Prelude.{ℕ, ◌/◌, ◌≡◌, Bool, true, false, ◌||◌, List, [], ◌∷◌, ltb, length, Float}
use Rattle.block.specs.declared.refusal.Refusal.TheVariants.{Pairs, Buffer}
use Rattle.block.specs.Refusal.{Row, row, first_of}
use Rattle.mesh.specs.Mesh.{Slices, slices_of}
use Rattle.mesh.specs.Result.{Result}
use Rattle.lent.specs.Answer.{Answer}
use Rattle.lent.specs.Answer.{saying, said, after_all}
use Rattle.parts.specs.declared.vert.GeomCtx.{GeomCtx}
use Rattle.parts.specs.Part.{Part, finite_ctx, part_mesh}

-- FORMAT 17.10, 8: a lent slice is shorter than what is to be written to it
unfoldable pub is_short_for : Slices → Slices → Bool
is_short_for made l =
    ltb (length l.positions) (length made.positions)
    || (ltb (length l.normals) (length made.normals)
    || (ltb (length l.colours) (length made.colours)
    || (ltb (length l.textures) (length made.textures)
    || (ltb (length l.sources) (length made.sources)
    || ltb (length l.indices) (length made.indices)))))

-- FORMAT 17.4: what is written for a part
unfoldable pub made_for : GeomCtx → Part → Slices
made_for c p = slices_of (part_mesh (finite_ctx c) p)

-- FORMAT 17.10: the rows of a part that is not a PointSet, in the order in which they are tested
unfoldable pub part_rows : GeomCtx → List Float → Part → Slices → List Row
part_rows c ps p l = row Pairs (ltb (length ps / 2) p.pairs) ∷ row Buffer (is_short_for (made_for c p) l) ∷ []

-- FORMAT 17.10: the number of the first that holds, 0 where none does
unfoldable pub part_number : GeomCtx → List Float → Part → Slices → ℕ
part_number c ps p l = first_of (part_rows c ps p l)

-- FORMAT 17.11, tri: solid, lit and without colours
unfoldable pub part_result : Part → Result
part_result p = record { vertices = length p.verts; indices = length p.indices; solid = true; unlit = false; has_colours = false }

-- FORMAT 17.10, 17.11: the part p, with the context c and the pairs ps, lent l, left m and answered r
pub record Parted (c : GeomCtx) (ps : List Float) (p : Part) (l m : Slices) (r : Answer) : Type 0 where
  pub answer : saying r ≡ said (part_number c ps p l) (part_result p)
  pub slices : m ≡ after_all (part_number c ps p l) (made_for c p) l

-- FORMAT 17.1: the slices that such a part is lent; sources and colours are not among them
abbrev pub lent_to : List ℕ → List ℕ → List ℕ → List ℕ → Slices
lent_to positions normals textures indices = record { sources = []; positions = positions; normals = normals; colours = []; textures = textures; indices = indices }
