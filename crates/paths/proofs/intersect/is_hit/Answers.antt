use mathlib.Core.Bool.{Bool, true, false, ◌&&◌}
use mathlib.Core.Path.{◌≡◌, refl}
use lib.Ieee.{binary32, add, eq, le, ne}
use Rattle.math.specs.Vector.{zero_f, one_f}
use Rattle.paths.specs.Intersect.{is_hit}
use Rattle.paths.proofs.intersect.is_hit.Goals as goal

-- seven tests, whichever are taken together first
together : (a b c d e f g : Bool) → (a && b && c && d && e && f && g) ≡ (a && (b && (c && (d && (e && (f && g))))))
together false b c d e f g = refl
together true false c d e f g = refl
together true true false d e f g = refl
together true true true false e f g = refl
together true true true true false f g = refl
together true true true true true f g = refl

pub returns : goal.returns
unfolding is_hit ne eq
returns c =
    let h = c.args.c in
    rw (c.is_from_zero.ensures, c.is_to_one.ensures, c.is_from_zero-2.ensures, c.is_to_one-2.ensures, c.is_from_zero-3.ensures, c.is_to_one-3.ensures)
    (together (ne h.det zero_f) (le zero_f h.u) (le h.u one_f) (le zero_f h.v) (le (add binary32 h.u h.v) one_f) (le zero_f h.t) (le h.t one_f))
