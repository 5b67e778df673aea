-- FORMAT 9.3: vectors of three f32, each operation in the order of src/convert/math.rs.
use Rattle.std.specs.Prelude.{Bool, ◌&&◌, cond, Float}
use Rattle.std.specs.Float.{binary32}
use Rattle.std.specs.Float.Ieee.{add, sub, mul, div, lt, fits, of_bits}
use Rattle.std.specs.Float.Ieee.Scale.{finite}
use Rattle.math.specs.declared.vector.V3.{V3}
use Rattle.std.specs.Prelude.{Option}
use Rattle.std.specs.Prelude.{Some, None}
use Rattle.math.specs.SquareRoot.{root_of}

-- f32 constants, by their bits: 0, 1, 2 and 1e-20
abbrev pub zero_f : Float
zero_f = of_bits binary32 0

abbrev pub one_f : Float
one_f = of_bits binary32 0x3f80_0000

abbrev pub two_f : Float
two_f = of_bits binary32 0x4000_0000

abbrev pub tiny : Float
tiny = of_bits binary32 0x1e3c_e508

abbrev pub v3 : Float → Float → Float → V3
v3 x y z = record { x = x; y = y; z = z }

abbrev pub x_axis : V3
x_axis = v3 one_f zero_f zero_f

abbrev pub y_axis : V3
y_axis = v3 zero_f one_f zero_f

-- the components are values that f32 has
abbrev pub fits3 : V3 → Bool
fits3 a = fits binary32 a.x && fits binary32 a.y && fits binary32 a.z

-- FORMAT 9.3, add
abbrev pub vadd : V3 → V3 → V3
vadd a b = v3 (add binary32 a.x b.x) (add binary32 a.y b.y) (add binary32 a.z b.z)

-- FORMAT 9.3, sub
abbrev pub vsub : V3 → V3 → V3
vsub a b = v3 (sub binary32 a.x b.x) (sub binary32 a.y b.y) (sub binary32 a.z b.z)

-- FORMAT 9.3, scale
abbrev pub vscale : V3 → Float → V3
vscale a s = v3 (mul binary32 a.x s) (mul binary32 a.y s) (mul binary32 a.z s)

-- FORMAT 9.3, dot
abbrev pub vdot : V3 → V3 → Float
vdot a b = add binary32 (add binary32 (mul binary32 a.x b.x) (mul binary32 a.y b.y)) (mul binary32 a.z b.z)

-- a minor: p * q - r * s
abbrev pub minor : Float → Float → Float → Float → Float
minor p q r s = sub binary32 (mul binary32 p q) (mul binary32 r s)

-- FORMAT 9.3, cross
abbrev pub vcross : V3 → V3 → V3
vcross a b = v3 (minor a.y b.z a.z b.y) (minor a.z b.x a.x b.z) (minor a.x b.y a.y b.x)

-- FORMAT 9.3, len
unfoldable pub vlen : V3 → Float
vlen a = root_of (vdot a a)

-- the length that allows normalising: finite, and above 1e-20
abbrev pub usable : Float → Bool
usable l = finite l && lt tiny l

-- a times the reciprocal of the length l
abbrev pub unit_by : Float → V3 → (Option V3)
unit_by l a = cond (usable l) (Some (vscale a (div binary32 one_f l))) None

-- FORMAT 9.3, normalize
unfoldable pub unit_of : V3 → (Option V3)
unfolding vlen
unit_of a = unit_by (vlen a) a
