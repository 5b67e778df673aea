-- FORMAT 8.4, arc_params: the length of a line of points up to each of them, as a part of the whole.
use Rattle.std.specs.Prelude.{ℕ, zero, suc, ◌+◌, ◌-◌, cond, List, length, get_or, Float}
use Rattle.std.specs.Float.{binary32}
use Rattle.std.specs.Float.Ieee.{add, sub, mul, div, lt}
use Rattle.std.specs.Float.Ieee.Scale.{finite}
use Rattle.math.specs.declared.vector.V3.{V3}
use Rattle.math.specs.SquareRoot.{root_of}
use Rattle.math.specs.Vector.{zero_f, vsub, vlen}
use Rattle.block.specs.declared.texture.Pair.{Pair}
use Rattle.lists.specs.Loops.{tab}
use Rattle.mesh.specs.Grid.{whole}
use Rattle.mesh.specs.Frames.{at}

-- FORMAT 8.4: cross-section point j
unfoldable pub at2 : List Pair → ℕ → Pair
at2 cs j = get_or cs j (record { s = zero_f; t = zero_f })

-- FORMAT 8.4, arc_params: a step that is not finite counts for nothing
abbrev pub counted : Float → Float
counted d = cond (finite d) d zero_f

-- FORMAT 8.4, arc_params (acc): the length up to point i, where d k is the step from point k to the next
unfoldable pub length_to : (ℕ → Float) → ℕ → Float
length_to d zero = zero_f
length_to d (suc i) = add binary32 (length_to d i) (counted (d i))

-- FORMAT 8.4, arc_params: the length x up to point i, of the whole length t; or, where that is not above 0, i of the last number m
unfoldable pub share : Float → ℕ → ℕ → Float → Float
share t m i x = let even = div binary32 (whole i) (whole m) in cond (lt zero_f t) (div binary32 x t) even

-- FORMAT 8.4, arc_params of n points, 2 or more
unfoldable pub arcs : (ℕ → Float) → ℕ → List Float
arcs d n = let t = length_to d (n - 1) in tab (λ i. share t (n - 1) i (length_to d i)) n 0

-- FORMAT 8.4, arc_params (d), of three coordinates
unfoldable pub step3 : List V3 → ℕ → Float
step3 sp i = vlen (vsub (at sp (i + 1)) (at sp i))

-- FORMAT 9.2: the root of the sum of two squares
abbrev pub hypot : Float → Float → Float
hypot x y = root_of (add binary32 (mul binary32 x x) (mul binary32 y y))

-- FORMAT 8.4, arc_params (d), of two coordinates
unfoldable pub step2 : List Pair → ℕ → Float
step2 cs i = hypot (sub binary32 (at2 cs (i + 1)).s (at2 cs i).s) (sub binary32 (at2 cs (i + 1)).t (at2 cs i).t)

-- FORMAT 8.4, extrusion (v)
abbrev pub arcs3 : List V3 → List Float
arcs3 sp = arcs (step3 sp) (length sp)

-- FORMAT 8.4, extrusion (u)
abbrev pub arcs2 : List Pair → List Float
arcs2 cs = arcs (step2 cs) (length cs)
