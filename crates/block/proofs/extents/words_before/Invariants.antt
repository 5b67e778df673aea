use Prim.Native.Nat.{◌*◌, ◌^◌, ◌≤◌}
use mathlib.Core.Path.{◌≡◌}
use lib.ListN.{length, take}
use Rattle.block.specs.Extents.{words_in}
use Rattle.block.proofs.extents.words_before.Given as goal

abbrev pub invariant-loop-width : goal.invariant-loop-width
invariant-loop-width l = (length l.yielded ≤ 8) × (l.t ≤ length l.yielded * 2 ^ 40) × (l.t ≡ words_in (take (length l.yielded) l.fn.w) l.fn.n)
