-- FORMAT 9.5: quaternions, and the turns made of them, in the order of src/convert/math.rs.
use Rattle.std.specs.Prelude.{◌&&◌, cond, Float}
use Rattle.std.specs.Float.{binary32}
use Rattle.std.specs.Float.Ieee.{add, sub, mul, div, neg, lt, of_bits}
use Rattle.std.specs.Float.Ieee.Scale.{finite}
use Rattle.math.specs.declared.vector.V3.{V3}
use Rattle.std.specs.Prelude.{Option}
use Rattle.std.specs.Prelude.{Some, None}
use Rattle.math.specs.declared.quaternion.Quat.{Quat}
use Rattle.math.specs.SquareRoot.{root_of}
use Rattle.math.specs.Vector.{zero_f, one_f, two_f, v3, x_axis, y_axis, vadd, vscale, vdot, vcross, unit_of}
use Rattle.math.specs.Order.{magnitude}

-- f32 constants, by their bits: 1e-7 and 0.9
abbrev pub slack : Float
slack = of_bits binary32 0x33d6_bf95

abbrev pub nine_tenths : Float
nine_tenths = of_bits binary32 0x3f66_6666

abbrev pub quat : Float → Float → Float → Float → Quat
quat x y z w = record { x = x; y = y; z = z; w = w }

abbrev pub identity : Quat
identity = quat zero_f zero_f zero_f one_f

abbrev pub vector_part : Quat → V3
vector_part q = v3 q.x q.y q.z

-- v + w t + u × t, where u and w are the vector part and the scalar part, and t is 2 (u × v)
abbrev pub turned : V3 → Float → V3 → V3 → V3
turned u w v t = vadd (vadd v (vscale t w)) (vcross u t)

-- FORMAT 9.5, quat_rotate
abbrev pub rotated : Quat → V3 → V3
rotated q v = turned (vector_part q) q.w v (vscale (vcross (vector_part q) v) two_f)

abbrev pub turn_by : (Option V3) → Float → Float → Quat
turn_by (Some u) s c = cond (finite s && finite c) (quat (mul binary32 u.x s) (mul binary32 u.y s) (mul binary32 u.z s) c) identity
turn_by None s c = identity

-- FORMAT 9.5, axis_angle_to_quat: s and c are the sine and the cosine of half the angle
unfoldable pub axis_turn : V3 → Float → Float → Quat
unfolding unit_of
axis_turn a s c = turn_by (unit_of a) s c

abbrev pub half_about : (Option V3) → Quat
half_about (Some u) = quat u.x u.y u.z zero_f
half_about None = quat zero_f zero_f one_f zero_f

-- the X axis, or the Y axis where x is not well below 1
abbrev pub other_axis : Float → V3
other_axis x = cond (lt (magnitude x) nine_tenths) x_axis y_axis

-- quat_between, the case of 180 degrees: half a turn about an axis across f
unfoldable pub half_turn : V3 → Quat
unfolding unit_of
half_turn f = half_about (unit_of (vcross f (other_axis f.x)))

abbrev pub divided : V3 → Float → Float → Quat
divided c w n = quat (div binary32 c.x n) (div binary32 c.y n) (div binary32 c.z n) (div binary32 w n)

-- quat_between, its last lines: (c, w) divided by its length
unfoldable pub shortest_arc : V3 → Float → Quat
unfolding root_of
shortest_arc c w = divided c w (root_of (add binary32 (vdot c c) (mul binary32 w w)))

-- quat_between of two unit vectors, by their dot product d
abbrev pub turn_at : Float → V3 → V3 → Quat
turn_at d f t =
    cond (lt (sub binary32 one_f slack) d) identity
    (cond (lt d (add binary32 (neg one_f) slack)) (half_turn f) (shortest_arc (vcross f t) (add binary32 one_f d)))

unfoldable pub turn_to : V3 → V3 → Quat
unfolding half_turn shortest_arc
turn_to f t = turn_at (vdot f t) f t

abbrev pub turn_units : (Option V3) → (Option V3) → Quat
turn_units (Some f) (Some t) = turn_to f t
turn_units (Some f) None = identity
turn_units None u = identity

-- FORMAT 9.5, quat_between
unfoldable pub between : V3 → V3 → Quat
unfolding unit_of turn_to
between a b = turn_units (unit_of a) (unit_of b)
