use Prim.Native.Nat.{ℕ}
use mathlib.Core.Path.{◌≡◌}
use Rattle.mesh.specs.Texture.{span_of}
use Rattle.lists.proofs.Chunked.{Chunked}
use Rattle.extrusion.proofs.Fitting.{s_of, t_of}
use Rattle.extrusion.proofs.caps.section_fit.Given as goal

abbrev pub invariant-loop-p : goal.invariant-loop-p
invariant-loop-p l = (n : ℕ) × Chunked 1 l.section n l.p-iterator × (l.a ≡ span_of (s_of l.section) n) × (l.b ≡ span_of (t_of l.section) n)
