-- FORMAT 5: the bits of the result, by the kind.
use mathlib.Core.Path.{◌≡◌}
use mathlib.Core.Bool.{Bool, ◌||◌}
use Rattle.block.specs.declared.header.Header.{Header}
use Rattle.block.specs.Kind.{is_lines}
use Rattle.mesh.specs.Result.{makes_colours, result_of}
use Rattle.sizes.specs.Flagged.{Flagged}

pub flagged_by : (h : Header) (s u c : Bool) → s ≡ (is_lines h.kind || h.solid) → u ≡ is_lines h.kind → c ≡ makes_colours h → Flagged h (record { solid = s; unlit = u; has_colors = c })
unfolding result_of
flagged_by h s u c p q r = record { solid = λ M. p; unlit = λ M. q; has_colours = λ M. r }
