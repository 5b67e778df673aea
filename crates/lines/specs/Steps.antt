-- FORMAT 6.3: the lines, one entry after another and one run after another.
use Rattle.std.specs.Prelude.{◌≡◌, Option, None, Some, IfSome, cond, List, [], ◌∷◌, ◌++◌, ℕ, suc, ◌+◌, ◌^◌, ◌<◌, ltb, length, get_or, drop}
use Rattle.block.specs.declared.number.VertexNumber.{VertexNumber}
use Rattle.block.specs.Runs.{Run}
use Rattle.mesh.specs.Lines.{line}
use Rattle.mesh.specs.Sizes.{named}
use Rattle.lists.specs.Parts.{spliced, Added}
use Rattle.lines.specs.declared.pairing.Progress.{Progress}

-- FORMAT 6.3, indexed_line_set (prev): the vertex of the entry before, where that names a point
unfoldable pub last_of : Option VertexNumber → Option ℕ
last_of None = None
last_of (Some v) = Some v.0

-- FORMAT 6.3, indexed_line_set (idx): the vertex of entry e, where it names one of p points: `numbers` has the vertices of those that do, of which this is number c
unfoldable pub vertex_at : ℕ → List ℕ → ℕ → ℕ → Option ℕ
vertex_at p numbers c e = cond (ltb e p) (Some (get_or numbers c 0)) None

-- the number of the next corner, once entry e is passed
unfoldable pub corner_after : ℕ → ℕ → ℕ → ℕ
corner_after p c e = cond (ltb e p) (suc c) c

-- FORMAT 6.3, indexed_line_set (prev): the lines along the entries of a run, of which vertex `prev` stands before the first
unfoldable pub pairs : ℕ → List ℕ → ℕ → Option ℕ → List ℕ → List ℕ
pairs p numbers c prev [] = []
pairs p numbers c prev (e ∷ es) = let v = vertex_at p numbers c e in line prev v ++ pairs p numbers (corner_after p c e) v es

-- FORMAT 6.3, indexed_line_set (split_runs): the lines of the runs, each from its own entries
unfoldable pub run_pairs : ℕ → List ℕ → ℕ → List Run → List ℕ
run_pairs p numbers c [] = []
run_pairs p numbers c (r ∷ rs) = pairs p numbers c None r.items ++ run_pairs p numbers (c + named p r.items) rs

-- one entry: from the progress w and the indices o to r and o'
pub record Stepped (p e : ℕ) (numbers : List ℕ) (w : Progress) (o : List ℕ) (r : Progress) (o' : List ℕ) : Type 0 where
  pub added : Added spliced (line (last_of w.last) (vertex_at p numbers w.corner.0 e)) w.at o r.at o'
  pub corner : r.corner.0 ≡ corner_after p w.corner.0 e
  pub last : last_of r.last ≡ vertex_at p numbers w.corner.0 e
  pub fits : IfSome r.last (λ v. v.0 < 2 ^ 32)

-- one run, of the entries es
pub record RunPut (p : ℕ) (es numbers : List ℕ) (w : Progress) (o : List ℕ) (r : Progress) (o' : List ℕ) : Type 0 where
  pub added : Added spliced (pairs p numbers w.corner.0 None es) w.at o r.at o'
  pub corner : r.corner.0 ≡ w.corner.0 + named p es

-- the indices xs in front, r of them, and what was there beyond
pub record Put (xs : List ℕ) (r : ℕ) (o o' : List ℕ) : Type 0 where
  pub count : r ≡ length xs
  pub made : o' ≡ xs ++ drop (length xs) o
