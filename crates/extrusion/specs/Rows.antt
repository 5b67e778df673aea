-- FORMAT 8.4: the axes as the code holds them, and the points row by row, from the lists alone.
use Rattle.std.specs.Prelude.{List, ℕ}
use Rattle.math.specs.declared.vector.V3.{V3}
use Rattle.math.specs.declared.quaternion.Quat.{Quat}
use Rattle.block.specs.declared.texture.Pair.{Pair}
use Rattle.lists.specs.Loops.{tab}
use Rattle.lists.specs.Lists.{flat}
use Rattle.mesh.specs.Frames.{Axes, axes, at, axes_at}
use Rattle.mesh.specs.Extrusion.{turn_at, scale_at, row_words}
use Rattle.extrusion.specs.declared.axes.PlaneAxes.{PlaneAxes}

-- FORMAT 8.4: the axes of a plane
abbrev pub axes_of : PlaneAxes → Axes
axes_of f = axes f.x f.y f.z

-- FORMAT 8.4, extrusion (coords): the row of spine point i, by spine, cross-section, scales and turns
unfoldable pub row_by : List V3 → List Pair → List Pair → List Quat → ℕ → List ℕ
row_by sp cs scs qs i = row_words (at sp i) (axes_at sp i) (turn_at qs i) (scale_at scs i) cs

-- FORMAT 8.4, extrusion (coords): the first n rows
abbrev pub rows_by : List V3 → List Pair → List Pair → List Quat → ℕ → List ℕ
rows_by sp cs scs qs n = flat (tab (row_by sp cs scs qs) n 0)
