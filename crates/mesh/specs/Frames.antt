-- FORMAT 8.4: the axes of the cross-section's plane at each spine point, by the point's number. ISO/IEC 14772-1, 6.18.
-- SourceFrames.antt has them as extrusion_frames makes them, list by list.
use Rattle.std.specs.Prelude.{ℕ, zero, suc, ◌+◌, ◌-◌, Bool, ◌&&◌, ◌||◌, cond, List, eqb, ltb, length, get_or}
use Rattle.std.specs.Float.Ieee.{lt, eq, neg}
use Rattle.math.specs.declared.vector.V3.{V3}
use Rattle.std.specs.Prelude.{Option}
use Rattle.std.specs.Prelude.{Some, None}
use Rattle.math.specs.declared.quaternion.Quat.{Quat}
use Rattle.math.specs.Vector.{zero_f, one_f, v3, x_axis, y_axis, vsub, vscale, vdot, vcross, unit_of}
use Rattle.math.specs.Quaternion.{rotated, between}
use Rattle.mesh.specs.Normals.{or_else}

-- read beyond the last spine point, which never happens
abbrev pub origin : V3
origin = v3 zero_f zero_f zero_f

-- FORMAT 8.4: (0, 0, 1)
abbrev pub z_axis : V3
z_axis = v3 zero_f zero_f one_f

-- FORMAT 8.4: the axes of a plane: X and Z span it, and Y goes along the spine
pub record Axes : Type 0 where
  pub x : V3
  pub y : V3
  pub z : V3

abbrev pub axes : V3 → V3 → V3 → Axes
axes x y z = record { x = x; y = y; z = z }

-- FORMAT 8.4, Option::or: the first of two that is there
abbrev pub or : (Option V3) → (Option V3) → (Option V3)
or (Some v) u = Some v
or None u = u

-- FORMAT 8.4: the first that is there of f 0, f 1, .. f (n - 1)
unfoldable pub first_of : (ℕ → (Option V3)) → ℕ → (Option V3)
first_of f zero = None
first_of f (suc n) = or (first_of f n) (f n)

-- FORMAT 8.4: the last of them, or s where none is there
unfoldable pub last_of : (Option V3) → (ℕ → (Option V3)) → ℕ → (Option V3)
last_of s f zero = s
last_of s f (suc n) = or (f n) (last_of s f n)

-- FORMAT 8.4: spine point i
unfoldable pub at : List V3 → ℕ → V3
at sp i = get_or sp i origin

-- FORMAT 8.4: equal as f32
abbrev pub same3 : V3 → V3 → Bool
same3 a b = eq a.x b.x && (eq a.y b.y && eq a.z b.z)

-- FORMAT 8.4, extrusion_frames (closed): more than two points, and the last equal to the first
unfoldable pub closed : List V3 → Bool
closed sp = ltb 2 (length sp) && same3 (at sp 0) (at sp (length sp - 1))

-- FORMAT 8.4: whether point i is the first or the last
abbrev pub is_end : ℕ → ℕ → Bool
is_end n i = eqb i 0 || eqb i (n - 1)

-- FORMAT 8.4: from point a to point b
abbrev pub step : List V3 → ℕ → ℕ → V3
step sp a b = vsub (at sp b) (at sp a)

-- FORMAT 8.4: the direction of the spine at one of its ends: across the seam of a closed spine, along an open one
unfoldable pub along_end : List V3 → ℕ → ℕ → V3
along_end sp n i = cond (closed sp) (step sp (n - 2) 1) (cond (eqb i 0) (step sp 0 1) (step sp (n - 2) (n - 1)))

-- FORMAT 8.4, extrusion_frames (v): elsewhere from the point before to the point after
abbrev pub along : List V3 → ℕ → ℕ → V3
along sp n i = cond (is_end n i) (along_end sp n i) (step sp (i - 1) (i + 1))

-- FORMAT 8.4: the Y axis that a point has of itself
unfoldable pub y_own : List V3 → ℕ → (Option V3)
y_own sp i = unit_of (along sp (length sp) i)

-- FORMAT 8.4: the first of all
unfoldable pub first_y : List V3 → (Option V3)
first_y sp = first_of (y_own sp) (length sp)

-- FORMAT 8.4, extrusion_frames (ys): the Y axis of point i: the nearest one at the point or before it, else the first after it
unfoldable pub y_at : List V3 → ℕ → (Option V3)
y_at sp i = last_of (first_y sp) (y_own sp) (suc i)

-- FORMAT 8.4: the normal of the plane of a point and its neighbours a and b
unfoldable pub bend : List V3 → ℕ → ℕ → ℕ → (Option V3)
bend sp a i b = unit_of (vcross (step sp i b) (step sp i a))

-- FORMAT 8.4: at the ends of a closed spine the neighbours are across the seam; an open end has what the point next to it has
unfoldable pub z_end : List V3 → ℕ → ℕ → (Option V3)
z_end sp n i =
    cond (closed sp) (bend sp (n - 2) 0 1)
    (cond (ltb 2 n) (cond (eqb i 0) (bend sp 0 1 2) (bend sp (n - 3) (n - 2) (n - 1))) None)

-- FORMAT 8.4, extrusion_frames (zs): the Z axis of a point, an open end having its neighbour's; none where the points are in a line
unfoldable pub z_own : List V3 → ℕ → (Option V3)
z_own sp i = cond (is_end (length sp) i) (z_end sp (length sp) i) (bend sp (i - 1) i (i + 1))

-- FORMAT 8.4, extrusion_frames (first): the first of all
unfoldable pub first_z : List V3 → (Option V3)
first_z sp = first_of (z_own sp) (length sp)

-- FORMAT 8.4: z, turned over where it points against the one used before it
abbrev pub turned : (Option V3) → V3 → V3
turned (Some p) z = cond (lt (vdot z p) zero_f) (vscale z (neg one_f)) z
turned None z = z

-- FORMAT 8.4, extrusion_frames (z): the Z axis used at a point, by the first of all, the one used before, and the point's own
unfoldable pub pick_z : (Option V3) → (Option V3) → (Option V3) → V3
pick_z first prev z = turned prev (or_else (or (or z prev) first) z_axis)

-- FORMAT 8.4, extrusion_frames (prev): the Z axis used before point i
unfoldable pub prev_z : List V3 → ℕ → (Option V3)
prev_z sp zero = None
prev_z sp (suc i) = Some (pick_z (first_z sp) (prev_z sp i) (z_own sp i))

-- FORMAT 8.4: z straightened against y
unfoldable pub upright : V3 → V3 → V3
upright y z = or_else (unit_of (vsub z (vscale y (vdot z y)))) z

-- FORMAT 8.4: the axes by Y, and by Z before it is straightened
unfoldable pub bent : V3 → V3 → Axes
bent y z = let u = upright y z in axes (vcross y u) y u

-- FORMAT 8.4: the axes turned by a quaternion
abbrev pub turned_by : Quat → Axes
turned_by q = axes (rotated q x_axis) (rotated q y_axis) (rotated q z_axis)

-- FORMAT 8.4, extrusion_frames (frame): all points in a line: the axes turned so that Y goes along it
unfoldable pub straight : (Option V3) → Axes
straight y = turned_by (between y_axis (or_else y y_axis))

-- FORMAT 8.4: by the first Z axis of all, where there is one; else one frame for all
abbrev pub axes_by : (Option V3) → (Option V3) → (Option V3) → V3 → Axes
axes_by (Some f) y₀ y z = bent (or_else y y_axis) z
axes_by None y₀ y z = straight y₀

-- FORMAT 8.4: the axes at point i
unfoldable pub axes_at : List V3 → ℕ → Axes
axes_at sp i = axes_by (first_z sp) (first_y sp) (y_at sp i) (pick_z (first_z sp) (prev_z sp i) (z_own sp i))
