-- FORMAT 17.3, ring: points of a unit circle from a list of pairs, the sine first.
use Rattle.std.specs.Prelude.{ℕ, ◌+◌, ◌*◌, List, get_or, Float}
use Rattle.std.specs.Float.{nan, binary32}
use Rattle.std.specs.Float.Ieee.{neg, div}
use Rattle.mesh.specs.Grid.{whole}
use Rattle.parts.specs.declared.ring.Ring.{Ring}

-- FORMAT 17.3: the sine of pair k
unfoldable pub sine_at : List Float → ℕ → Float
sine_at ps k = get_or ps (2 * k) nan

-- FORMAT 17.3: its cosine
unfoldable pub cosine_at : List Float → ℕ → Float
cosine_at ps k = get_or ps (2 * k + 1) nan

-- FORMAT 17.3, ring: 0 at -Z, counter-clockwise seen from +Y
unfoldable pub ring_at : List Float → ℕ → Ring
ring_at ps k = record { x = neg (sine_at ps k); z = neg (cosine_at ps k) }

-- FORMAT 17.3: i of n steps round
unfoldable pub share_of : ℕ → ℕ → Float
share_of i n = div binary32 (whole i) (whole n)
