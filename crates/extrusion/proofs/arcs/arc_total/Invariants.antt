use Prim.Native.Nat.{ℕ, ◌+◌, ◌<◌}
use Rattle.mesh.specs.Arcs.{length_to}
use lib.Ieee.{Float}
use mathlib.Core.Path.{◌≡◌}
use Rattle.extrusion.proofs.arcs.arc_total.Given as goal

abbrev pub invariant-loop-j : goal.invariant-loop-j
invariant-loop-j g l =
    (value : ℕ → Float) → ((i : ℕ) (d : Float) → i + 1 < l.n → goal.F-post g l.step i d → d ≡ value i) → l.x ≡ length_to value l.j
