use Prim.Native.Nat.{◌+◌, ◌-◌, ◌*◌}
use Rattle.extrusion.specs.Listings.{start_at}
use Rattle.lists.proofs.Pieces.{Singles}
use mathlib.Core.Path.{◌≡◌}
use Rattle.extrusion.proofs.faces.Faces.put_starts.Given as goal

abbrev pub invariant-loop-j : goal.invariant-loop-j
invariant-loop-j l = (l.c ≡ start_at ((l.self.n - 1) * (l.self.m - 1)) l.self.cap l.j) × Singles (start_at ((l.self.n - 1) * (l.self.m - 1)) l.self.cap) (l.faces + 1) l.initial.work l.k l.j l.work
