use mathlib.Core.List.{List}
use mathlib.Core.Path.{ap, ◌∙◌}
use Prim.Native.Nat.{ℕ, ◌-◌}
use lib.ListN.{length, take}
use Rattle.lists.proofs.Removal.{moved_down}
use Rattle.polygon.proofs.ears.take_out.Goals as goal

pub returns : goal.returns
returns c = ap (λ (l : List ℕ). take (length c.args.idx.now - 1) l) c.copy_within.ensures.after ∙ moved_down c.args.idx.now c.args.i c.requires
