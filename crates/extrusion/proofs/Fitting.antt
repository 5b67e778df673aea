-- FORMAT 8.4: laws of the caps: whether the cross-section closes, and how it fits the texture.
use mathlib.Core.Path.{◌≡◌, refl}
use mathlib.Core.Bool.{Bool, true, false, ◌&&◌}
use mathlib.Core.List.{List}
use Prim.Native.Nat.{ℕ, ◌+◌, ◌-◌}
use native.Mathlib.Numerals.{add-one}
use lib.Dec.{ltb}
use lib.ListN.{length, get_or}
use lib.Ieee.{Float, binary32, sub, eq}
use Rattle.math.specs.Order.{max_of}
use Rattle.block.specs.declared.texture.Pair.{Pair}
use Rattle.mesh.specs.declared.texture.Span.{Span}
use Rattle.mesh.specs.declared.texture.AxisName.TheVariants.{X, Y}
use Rattle.mesh.specs.declared.texture.Fit.{Fit}
use Rattle.mesh.specs.Texture.{widened, span_of, divisor}
use Rattle.mesh.specs.Arcs.{at2}
use Rattle.mesh.specs.Extrusion.{closes, ring_of, cap_length, cap_fit}

-- two points are equal where both numbers are
pub closes_is : (l : List Pair) (t : Bool)
    → ((d : Pair) → t ≡ (ltb 2 (length l) && (eq (get_or l 0 d).s (get_or l (length l - 1) d).s && eq (get_or l 0 d).t (get_or l (length l - 1) d).t)))
    → t ≡ closes l
unfolding closes at2
closes_is l t e = e _

module _ (l : List Pair) (m : ℕ) (t : Bool) (et : t ≡ closes l) where
  pub cap_closed : m ≡ length l → t ≡ true → m - 1 ≡ cap_length l
  unfolding cap_length
  cap_closed el e = rw (← et, e, ← el) refl

  pub cap_open : m ≡ length l → t ≡ false → m ≡ cap_length l
  unfolding cap_length
  cap_open el e = rw (← et, e, ← el) refl

  pub ring_closed : m ≡ length l → t ≡ true → m ≡ ring_of l
  unfolding ring_of
  ring_closed el e = rw (← et, e, ← el) refl

  pub ring_open : t ≡ false → 0 ≡ ring_of l
  unfolding ring_of
  ring_open e = rw (← et, e) refl

pub span_more : (f : ℕ → Float) (j : ℕ) (s r : Span) (v : Float) → s ≡ span_of f j → v ≡ f j → r ≡ widened s v → r ≡ span_of f (j + 1)
unfolding span_of
span_more f j s r v es ev er = rw (er, es, ev, add-one) refl

-- the coordinates of a cross-section
abbrev pub s_of : List Pair → ℕ → Float
s_of cs j = (at2 cs j).s

abbrev pub t_of : List Pair → ℕ → Float
t_of cs j = (at2 cs j).t

pub fit_is : (cs : List Pair) (n : ℕ) (a b : Span) (m d : Float) → n ≡ length cs → a ≡ span_of (s_of cs) n → b ≡ span_of (t_of cs) n
    → m ≡ max_of (sub binary32 a.high a.low) (sub binary32 b.high b.low) → d ≡ divisor m
    → ◌≡◌ {A = Fit} (record { s_axis = X; t_axis = Y; s_low = a.low; t_low = b.low; by = d }) (cap_fit cs)
unfolding cap_fit
fit_is cs n a b m d en ea eb em ed = rw (ed, em, ea, eb, en) refl
