use Rattle.std.proofs.Common.{List, ℕ}
use Rattle.parts.specs.declared.vert.Vert.{Vert}
use Rattle.parts.specs.Building.{Room}
use Rattle.parts.specs.Turns.{Gives}
use Rattle.parts.proofs.Turning.{Rowing}
use Rattle.parts.proofs.builder.Builder.put_verts.Given as goal

abbrev pub invariant-loop-i : goal.invariant-loop-i
invariant-loop-i g l =
    (f : ℕ → List Vert) → Gives g.R.AsSlice.items (goal.F-post g l.row) l.n l.k (λ m. Room m l.initial.self) f
    → Rowing l.n f l.k l.initial.self l.i l.next l.self
