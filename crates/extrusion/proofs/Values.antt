-- FORMAT 2.4: an entry that was read, in the definitions' words.
use mathlib.Core.Path.{◌≡◌}
use mathlib.Core.List.{List}
use Prim.Native.Nat.{ℕ}
use lib.ListN.{get_or}
use Rattle.math.specs.declared.vector.V3.{V3}
use Rattle.block.specs.declared.texture.Pair.{Pair}
use Rattle.mesh.specs.Frames.{at}
use Rattle.mesh.specs.Arcs.{at2}

pub at_is : (sp : List V3) (i : ℕ) (r : V3) → ((d : V3) → r ≡ get_or sp i d) → r ≡ at sp i
unfolding at
at_is sp i r e = e _

pub at2_is : (cs : List Pair) (j : ℕ) (r : Pair) → ((d : Pair) → r ≡ get_or cs j d) → r ≡ at2 cs j
unfolding at2
at2_is cs j r e = e _
