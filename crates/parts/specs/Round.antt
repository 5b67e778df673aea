-- FORMAT 17.8, 17.9, 17.10: a cylinder and a cone by numbers: half the height, and what stands before their caps. For the proofs of both.
use Rattle.std.specs.Prelude.{ℕ, Bool, Float}
use Rattle.std.specs.Float.{binary32}
use Rattle.std.specs.Float.Ieee.{div}
use Rattle.math.specs.Vector.{two_f}
use Rattle.parts.specs.declared.round.Round.{Round}
use Rattle.parts.specs.declared.marks.Marks.{Marks}
use Rattle.parts.specs.declared.sizes.PartSizes.{PartSizes}
use Rattle.parts.specs.Sizes.{sum_of, sizes_where}
use Rattle.parts.specs.Cap.{cap_sizes}

-- the side and the caps stand as far above the middle as below
abbrev pub half : Round → Float
half k = div binary32 k.height two_f

-- FORMAT 17.10: with a side of the sizes a and caps of n slices, what there is before the top, before the bottom, and in all
unfoldable pub marks_of : PartSizes → ℕ → Bool → Bool → Marks
marks_of a n top bottom =
    let b = sum_of a (sizes_where top (cap_sizes n)) in
    record { top = a; bottom = b; all = sum_of b (sizes_where bottom (cap_sizes n)) }
