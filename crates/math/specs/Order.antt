-- FORMAT 9.4: the minimum and the maximum of two f32: the other one where one is NaN. Of two zeros the negative one is the lesser.
use Rattle.std.specs.Prelude.{Bool, false, not, ◌&&◌, ◌||◌, cond, eqb, Float}
use Rattle.std.specs.Float.{nan, inf, fin}
use Rattle.std.specs.Float.Ieee.{lt, is_nan}

-- of either sign
unfoldable pub is_zero : Float → Bool
is_zero nan = false
is_zero (inf s) = false
is_zero (fin s m e) = eqb m 0

unfoldable pub negative : Float → Bool
negative nan = false
negative (inf s) = s
negative (fin s m e) = s

-- FORMAT 9.4, f32::abs
unfoldable pub magnitude : Float → Float
magnitude nan = nan
magnitude (inf s) = inf false
magnitude (fin s m e) = fin false m e

-- b where a is NaN, a where b is; else b where it is past a, or both are zeros and b is the one that is wanted; else a
unfoldable pub choice : Bool → Bool → Float → Float → Float
choice past wanted a b = cond (is_nan a) b (cond (is_nan b) a (cond (past || (is_zero a && (is_zero b && wanted))) b a))

-- FORMAT 9.4, f32::min
unfoldable pub min_of : Float → Float → Float
unfolding choice
min_of a b = choice (lt b a) (negative b) a b

-- FORMAT 9.4, f32::max
unfoldable pub max_of : Float → Float → Float
unfolding choice
max_of a b = choice (lt a b) (not (negative b)) a b
