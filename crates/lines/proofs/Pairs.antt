-- The loops that put the lines: over the entries of a run, and over the runs.
use mathlib.Core.Path.{◌≡◌, sym, ap, ◌∙◌}
use Rattle.std.specs.Prelude.{Option, None, Some, IfSome}
use Rattle.block.specs.declared.number.VertexNumber.{VertexNumber}
use mathlib.Core.Bool.{false}
use mathlib.Core.List.{List, [], ◌∷◌}
use Prim.Native.Nat.{ℕ, ◌+◌, ◌*◌, ◌^◌, ◌≤◌, ◌<◌}
use native.Mathlib.Nat.{zero-add}
use native.Mathlib.Numerals.{add-one}
use native.Mathlib.Omega.{arith}
use borrow.Author.Tests.{lt-ltb, le-ltb}
use lib.Dec.{ltb}
use lib.ListN.{length, get_or}
use Rattle.bits.specs.Bits.{entries}
use Rattle.block.specs.Runs.{Run, runs, sum_over}
use Rattle.block.proofs.Walks.{sum_first}
use Rattle.mesh.specs.Lines.{line}
use Rattle.mesh.specs.Sizes.{named, lines_after}
use Rattle.lists.proofs.Splices.{splice_front}
use Rattle.lines.specs.declared.pairing.Progress.{Progress}
use Rattle.lists.specs.Parts.{spliced, Added}
use Rattle.lists.proofs.Pieces.{none_added}
use Rattle.lines.specs.Steps.{last_of, vertex_at, corner_after, pairs, run_pairs, Stepped, RunPut, Put}
use Rattle.lists.proofs.Numbers.{carry}
use Rattle.lines.proofs.Lengths.{length_lines}
use Rattle.lists.proofs.Putting.{Split, splices, Left, left_here, left_spliced, left_end}

-- ---- one line

module _ (v : VertexNumber) (next : ℕ) {last : Option VertexNumber} where
  pub line_two : last ≡ Some v → length (line (last_of last) (Some next)) ≡ 2
  unfolding last_of
  line_two e = rw e

  pub line_put : last ≡ Some v → (l : List ℕ) (at : ℕ) {l' : List ℕ} → l' ≡ spliced l at (v.0 ∷ next ∷ []) → l' ≡ spliced l at (line (last_of last) (Some next))
  unfolding last_of
  line_put e l at q = rw e q

pub line_left : (next : ℕ) {last : Option VertexNumber} → last ≡ None → (l : List ℕ) (at : ℕ) → Added spliced (line (last_of last) (Some next)) at l at l
unfolding last_of
line_left next e l at = rw e (none_added l at)

pub line_none : (prev : Option ℕ) (l : List ℕ) (at : ℕ) → Added spliced (line prev None) at l at l
line_none None l at = none_added l at
line_none (Some a) l at = none_added l at

-- ---- one entry

module _ (p : ℕ) (numbers : List ℕ) (c : ℕ) {e : ℕ} where
  pub vertex_here : e < p → vertex_at p numbers c e ≡ Some (get_or numbers c 0)
  unfolding vertex_at
  vertex_here h = rw (lt-ltb e p h)

  pub vertex_past : p ≤ e → vertex_at p numbers c e ≡ None
  unfolding vertex_at
  vertex_past h = rw (le-ltb e p h)

module _ (p c : ℕ) {e : ℕ} where
  pub corner_here : e < p → corner_after p c e ≡ c + 1
  unfolding corner_after
  corner_here h = rw (lt-ltb e p h, add-one)

  pub corner_past : p ≤ e → corner_after p c e ≡ c
  unfolding corner_after
  corner_past h = rw (le-ltb e p h)

-- ---- the entries of a run

-- of the entries es of a run, `rest` are left, since the progress was f and the indices were o₀
pub record Pairing (p : ℕ) (es numbers : List ℕ) (f : Progress) (o₀ rest : List ℕ) (w : Progress) (o : List ℕ) : Type 0 where
  pub fits : IfSome w.last (λ v. v.0 < 2 ^ 32)
  pub corners : w.corner.0 + named p rest ≡ f.corner.0 + named p es
  pub left : Left spliced (pairs p numbers f.corner.0 None es) f.at o₀ (pairs p numbers w.corner.0 (last_of w.last) rest) w.at o

module _ {p : ℕ} {es numbers : List ℕ} {f : Progress} {o₀ rest : List ℕ} {w : Progress} {o : List ℕ} (P : Pairing p es numbers f o₀ rest w o) where
  module _ {e : ℕ} {r : List ℕ} (d : rest ≡ e ∷ r) where
    next_line : Split (pairs p numbers w.corner.0 (last_of w.last) rest)
        (line (last_of w.last) (vertex_at p numbers w.corner.0 e))
        (pairs p numbers (corner_after p w.corner.0 e) (vertex_at p numbers w.corner.0 e) r)
    unfolding pairs
    next_line = record { is = ap (pairs p numbers w.corner.0 (last_of w.last)) d }

    corners_next : corner_after p w.corner.0 e + named p r ≡ f.corner.0 + named p es
    unfolding corner_after named
    corners_next =
        carry (ltb e p) w.corner.0 (named p r) ∙ ap (λ (l : List ℕ). w.corner.0 + named p l) (sym d) ∙ P.corners

    -- there is a number for an entry that names a point, and room for the line to it
    pub pairing_here : f.corner.0 + named p es ≤ length numbers → e < p → w.corner.0 < length numbers
    pairing_here q l = omega (arith, corner_here p w.corner.0 l, corners_next)

    pub pairing_room : f.at + length (pairs p numbers f.corner.0 None es) ≤ length o₀
        → w.at + length (line (last_of w.last) (vertex_at p numbers w.corner.0 e)) ≤ length o
    pairing_room q = omega (arith, left_here P.left next_line, P.left.len)

    pub pairing_next : f.at + length (pairs p numbers f.corner.0 None es) ≤ length o₀ → {w' : Progress} {o' : List ℕ} → Stepped p e numbers w o w' o' → Pairing p es numbers f o₀ r w' o'
    pairing_next q S =
        record {
          fits = S.fits;
          corners = rw S.corner corners_next;
          left = rw (S.corner, S.last) (left_spliced P.left q next_line S.added);
        }

  pub pairing_end : rest ≡ [] → RunPut p es numbers f o₀ w o
  unfolding pairs named
  pairing_end d =
      record {
        added = left_end P.left splices (ap (pairs p numbers w.corner.0 (last_of w.last)) d);
        corner = omega (arith, P.corners, ap (named p) d);
      }

-- ---- the runs

-- the runs rs of the list bs are left, since the indices were o₀
pub record Lining (p : ℕ) (bs numbers o₀ : List ℕ) (rs : List Run) (w : Progress) (o : List ℕ) : Type 0 where
  pub corners : w.corner.0 + sum_over (named p) rs ≡ sum_over (named p) (runs (entries bs))
  pub left : Left spliced (run_pairs p numbers 0 (runs (entries bs))) 0 o₀ (run_pairs p numbers w.corner.0 rs) w.at o

module _ {p : ℕ} {bs numbers o₀ : List ℕ} {rs : List Run} {w : Progress} {o : List ℕ} (N : Lining p bs numbers o₀ rs w o) where
  -- the first of them is r
  module _ {r : Run} {more : List Run} (F : rs ≡ r ∷ more) where
    run_line : Split (run_pairs p numbers w.corner.0 rs) (pairs p numbers w.corner.0 None r.items) (run_pairs p numbers (w.corner.0 + named p r.items) more)
    unfolding run_pairs
    run_line = record { is = ap (run_pairs p numbers w.corner.0) F }

    -- there are numbers for its corners, and room for its lines
    pub lining_here : length numbers ≡ sum_over (named p) (runs (entries bs)) → w.corner.0 + named p r.items ≤ length numbers
    lining_here e = omega (arith, sum_first (named p) F, N.corners)

    pub lining_room : 2 * sum_over (lines_after p false) (runs (entries bs)) ≤ length o₀ → w.at + length (pairs p numbers w.corner.0 None r.items) ≤ length o
    lining_room e = omega (arith, left_here N.left run_line, N.left.len, length_lines p numbers (runs (entries bs)) 0)

    pub lining_next : 2 * sum_over (lines_after p false) (runs (entries bs)) ≤ length o₀ → {w' : Progress} {o' : List ℕ} → RunPut p r.items numbers w o w' o' → Lining p bs numbers o₀ more w' o'
    lining_next e R =
        record {
          corners = omega (arith, R.corner, sum_first (named p) F, N.corners);
          left = rw R.corner (left_spliced N.left (omega (arith, length_lines p numbers (runs (entries bs)) 0, e)) run_line R.added);
        }

  pub lining_end : rs ≡ [] → Put (run_pairs p numbers 0 (runs (entries bs))) w.at o₀ o
  unfolding run_pairs
  lining_end e =
      let A = left_end N.left splices (ap (run_pairs p numbers w.corner.0) e) in
      record { count = A.next ∙ zero-add _; made = A.made ∙ splice_front o₀ (run_pairs p numbers 0 (runs (entries bs))) }
