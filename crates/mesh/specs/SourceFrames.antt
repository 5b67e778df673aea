-- FORMAT 8.4, extrusion_frames: the axes as the source makes them, list by list: Y axes filled forwards, then backwards; Z axes, the open ends copied; one walk.
use Rattle.std.specs.Prelude.{ℕ, ◌+◌, ◌-◌, not, ◌&&◌, cond, List, [], ◌∷◌, ltb, length, get_or, set, replicate}
use Rattle.math.specs.declared.vector.V3.{V3}
use Rattle.std.specs.Prelude.{Option}
use Rattle.std.specs.Prelude.{Some, None}
use Rattle.math.specs.Vector.{y_axis}
use Rattle.lists.specs.Loops.{tab}
use Rattle.mesh.specs.Normals.{or_else}
use Rattle.mesh.specs.Frames.{Axes, or, closed, is_end, y_own, bend, pick_z, bent, straight}

-- FORMAT 8.4: each one that is missing takes the one before it; p stands before the first
unfoldable pub forward : (Option V3) → List (Option V3) → List (Option V3)
forward p [] = []
forward p (u ∷ us) = let v = or u p in v ∷ forward v us

-- FORMAT 8.4: the first element
abbrev pub head_of : List (Option V3) → (Option V3)
head_of [] = None
head_of (u ∷ us) = u

-- FORMAT 8.4: each one that is missing takes the one behind it
unfoldable pub backward : List (Option V3) → List (Option V3)
backward [] = []
backward (u ∷ us) = let vs = backward us in or u (head_of vs) ∷ vs

-- FORMAT 8.4, iter().flatten().next()
unfoldable pub first : List (Option V3) → (Option V3)
first [] = None
first (u ∷ us) = or u (first us)

-- FORMAT 8.4, extrusion_frames (ys): filled forwards, then backwards
unfoldable pub ys : List V3 → List (Option V3)
ys sp = backward (forward None (tab (y_own sp) (length sp) 0))

-- FORMAT 8.4, extrusion_frames (zs), as first collected
unfoldable pub z_raw : List V3 → ℕ → (Option V3)
z_raw sp i = cond (is_end (length sp) i) (cond (closed sp) (bend sp (length sp - 2) 0 1) None) (bend sp (i - 1) i (i + 1))

-- FORMAT 8.4: zs[0] = zs[1], then zs[n - 1] = zs[n - 2]
unfoldable pub copy_ends : ℕ → List (Option V3) → List (Option V3)
copy_ends n r = let s = set r 0 (get_or r 1 None) in set s (n - 1) (get_or s (n - 2) None)

-- FORMAT 8.4, extrusion_frames (zs): the ends of an open spine are copied
unfoldable pub zs : List V3 → List (Option V3)
zs sp = let r = tab (z_raw sp) (length sp) 0 in cond (not (closed sp) && ltb 2 (length sp)) (copy_ends (length sp) r) r

-- FORMAT 8.4, extrusion_frames (frames): the last loop; prev is the Z axis used before
unfoldable pub walk : (Option V3) → (Option V3) → List (Option V3) → List (Option V3) → List Axes
walk f prev [] zs = []
walk f prev (y ∷ ys) [] = []
walk f prev (y ∷ ys) (z ∷ zs) = let w = pick_z f prev z in bent (or_else y y_axis) w ∷ walk f (Some w) ys zs

-- FORMAT 8.4: by the first Z axis that is there; where none is, one frame for all
abbrev pub frames_by : (Option V3) → List (Option V3) → List (Option V3) → List Axes
frames_by (Some f) ys zs = walk (Some f) None ys zs
frames_by None ys zs = replicate (length ys) (straight (first ys))

-- FORMAT 8.4, extrusion_frames
unfoldable pub source_frames : List V3 → List Axes
source_frames sp = frames_by (first (zs sp)) (ys sp) (zs sp)
