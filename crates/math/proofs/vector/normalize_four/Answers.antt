use mathlib.Core.Path.{◌≡◌, ◌∙◌, ap}
use lib.Ieee.{Float}
use Rattle.math.specs.declared.vector.V3.{V3}
use Rattle.std.specs.Prelude.{Option}
use Rattle.math.specs.SquareRoot.{root_of}
use Rattle.math.specs.Vector.{vdot, unit_by, unit_of, vlen}
use Rattle.math.proofs.vector.normalize_four.Goals as goal

-- the unit vector, from the root of the square of the length
unit : (a : V3) (s l : Float) (k : (Option V3)) → s ≡ vdot a a → l ≡ root_of s → k ≡ unit_by l a → k ≡ unit_of a
unfolding unit_of vlen
unit a s l k e r h = h ∙ ap (λ (x : Float). unit_by x a) (r ∙ ap root_of e)

pub returns : goal.returns
returns c =
    (unit _ _ _ _ c.dot.ensures c.roots-l.ensures.0.is c.unit_by.ensures, unit _ _ _ _ c.dot-2.ensures c.roots-l.ensures.1.is c.unit_by-2.ensures, unit _ _ _ _ c.dot-3.ensures c.roots-l.ensures.2.is c.unit_by-3.ensures, unit _ _ _ _ c.dot-4.ensures c.roots-l.ensures.3.is c.unit_by-4.ensures)
