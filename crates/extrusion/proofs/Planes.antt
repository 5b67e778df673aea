-- FORMAT 8.4: laws of the axes, one for each way a function of the code returns.
use mathlib.Core.Path.{◌≡◌, refl}
use mathlib.Core.Bool.{Bool, true, false, ◌&&◌}
use mathlib.Core.List.{List}
use Prim.Native.Nat.{ℕ, ◌+◌, ◌-◌, ◌≤◌, ◌<◌}
use native.Mathlib.Numerals.{add-one}
use borrow.Author.Tests.{lt-ltb, le-ltb, eq-eqb, ne_eqb}
use lib.Dec.{ltb}
use lib.ListN.{length, get_or}
use lib.Ieee.{Float}
use Rattle.math.specs.declared.vector.V3.{V3}
use Rattle.std.specs.Prelude.{Option}
use Rattle.std.specs.Prelude.{Some, None}
use Rattle.math.specs.declared.quaternion.Quat.{Quat}
use Rattle.math.specs.Vector.{x_axis, y_axis, vadd, vsub, vscale, vdot, vcross, unit_of}
use Rattle.math.specs.Quaternion.{rotated, between}
use Rattle.std.specs.Prelude.{unwrap_or}
use Rattle.std.specs.Option.{option_or}
use Rattle.mesh.proofs.Options.{unwrap_or_is, option_or_is}
use Rattle.mesh.specs.Frames.{z_axis, axes, at, or, last_of, same3, closed, is_end, step, along_end, y_own, bend, z_end, z_own, turned, pick_z, upright, bent, straight, axes_by}
use Rattle.mesh.specs.Extrusion.{placed}
use Rattle.extrusion.specs.declared.axes.PlaneAxes.{PlaneAxes}
use Rattle.extrusion.specs.Rows.{axes_of}

-- ---- what may be missing

pub last_step : (s : (Option V3)) (f : ℕ → (Option V3)) (i : ℕ) (y z r : (Option V3)) → y ≡ last_of s f i → z ≡ f i → r ≡ option_or z y → r ≡ last_of s f (i + 1)
unfolding last_of
last_step s f i y z r ey ez er = rw (er, ey, ez, add-one) (option_or_is (f i) (last_of s f i))

-- ---- the ends

pub closed_is : (sp : List V3) (k : Bool) → ((d : V3) → k ≡ (ltb 2 (length sp) && same3 (get_or sp 0 d) (get_or sp (length sp - 1) d))) → k ≡ closed sp
unfolding closed at
closed_is sp k e = e _

-- ---- Y

module _ (sp : List V3) (n i : ℕ) (k : Bool) (e : k ≡ closed sp) where
  pub end_closed : (r : V3) → k ≡ true → r ≡ step sp (n - 2) 1 → r ≡ along_end sp n i
  unfolding along_end
  end_closed r t w = rw (w, ← e, t) refl

  pub end_first : (r : V3) → k ≡ false → i ≡ 0 → r ≡ step sp 0 1 → r ≡ along_end sp n i
  unfolding along_end
  end_first r t z w = rw (w, ← e, t, eq-eqb i 0 z) refl

  pub end_last : (r : V3) → k ≡ false → (i ≡ 0 → ⊥) → r ≡ step sp (n - 2) (n - 1) → r ≡ along_end sp n i
  unfolding along_end
  end_last r t z w = rw (w, ← e, t, ne_eqb i 0 z) refl

module _ (sp : List V3) (n i : ℕ) (k : Bool) (en : n ≡ length sp) (e : k ≡ is_end n i) where
  pub y_end : (v : V3) (r : (Option V3)) → k ≡ true → v ≡ along_end sp n i → r ≡ unit_of v → r ≡ y_own sp i
  unfolding y_own
  y_end v r t ev er = rw (er, ev, ← en, ← e, t) refl

  pub y_inner : (v : V3) (r : (Option V3)) → k ≡ false → v ≡ step sp (i - 1) (i + 1) → r ≡ unit_of v → r ≡ y_own sp i
  unfolding y_own
  y_inner v r t ev er = rw (er, ev, ← en, ← e, t) refl

  pub z_end_lem : (r : (Option V3)) → k ≡ true → r ≡ z_end sp n i → r ≡ z_own sp i
  unfolding z_own
  z_end_lem r t er = rw (er, ← en, ← e, t) refl

  pub z_inner : (r : (Option V3)) → k ≡ false → r ≡ bend sp (i - 1) i (i + 1) → r ≡ z_own sp i
  unfolding z_own
  z_inner r t er = rw (er, ← en, ← e, t) refl

-- ---- Z

pub bend_is : (sp : List V3) (a i b : ℕ) (p q v : V3) (r : (Option V3)) → p ≡ step sp i b → q ≡ step sp i a → v ≡ vcross p q → r ≡ unit_of v → r ≡ bend sp a i b
unfolding bend
bend_is sp a i b p q v r ep eq ev er = rw (er, ev, ep, eq) refl

module _ (sp : List V3) (n i : ℕ) (k : Bool) (e : k ≡ closed sp) where
  pub z_closed : (r : (Option V3)) → k ≡ true → r ≡ bend sp (n - 2) 0 1 → r ≡ z_end sp n i
  unfolding z_end
  z_closed r t w = rw (w, ← e, t) refl

  pub z_first : (r : (Option V3)) → k ≡ false → 2 < n → i ≡ 0 → r ≡ bend sp 0 1 2 → r ≡ z_end sp n i
  unfolding z_end
  z_first r t l z w = rw (w, ← e, t, lt-ltb 2 n l, eq-eqb i 0 z) refl

  pub z_last : (r : (Option V3)) → k ≡ false → 2 < n → (i ≡ 0 → ⊥) → r ≡ bend sp (n - 3) (n - 2) (n - 1) → r ≡ z_end sp n i
  unfolding z_end
  z_last r t l z w = rw (w, ← e, t, lt-ltb 2 n l, ne_eqb i 0 z) refl

  pub z_none : k ≡ false → n ≤ 2 → None ≡ z_end sp n i
  unfolding z_end
  z_none t l = rw (← e, t, le-ltb 2 n l) refl

pub pick_is : (first prev z a b : (Option V3)) (v r : V3) → a ≡ option_or z prev → b ≡ option_or a first → v ≡ unwrap_or b z_axis → r ≡ turned prev v → r ≡ pick_z first prev z
unfolding pick_z
pick_is first prev z a b v r ea eb ev er =
    rw (er, ev, eb, ea, option_or_is (option_or z prev) first, option_or_is z prev, unwrap_or_is (or (or z prev) first) z_axis) refl

pub upright_is : (y z s t r : V3) (d : Float) (u : (Option V3)) → d ≡ vdot z y → s ≡ vscale y d → t ≡ vsub z s → u ≡ unit_of t → r ≡ unwrap_or u z → r ≡ upright y z
unfolding upright
upright_is y z s t r d u ed es et eu er = rw (er, eu, et, es, ed) (unwrap_or_is _ _)

pub bent_is : (y z u x : V3) → u ≡ upright y z → x ≡ vcross y u → axes x y u ≡ bent y z
unfolding bent
bent_is y z u x eu ex = rw (ex, eu) refl

pub straight_is : (y : (Option V3)) (e a b c : V3) (q : Quat) → e ≡ unwrap_or y y_axis → q ≡ between y_axis e → a ≡ rotated q x_axis → b ≡ rotated q y_axis
    → c ≡ rotated q z_axis → axes a b c ≡ straight y
unfolding straight
straight_is y e a b c q ee eq ea eb ec = rw (ea, eb, ec, eq, ee, unwrap_or_is y y_axis) refl

pub by_bent : (first y₀ y : (Option V3)) (z f v : V3) (r : PlaneAxes) → first ≡ Some f → v ≡ unwrap_or y y_axis → axes_of r ≡ bent v z → axes_of r ≡ axes_by first y₀ y z
by_bent first y₀ y z f v r ef ev er = rw (er, ev, ef, unwrap_or_is y y_axis) refl

pub placed_is : (o l a b c s t r : V3) (f : PlaneAxes) → a ≡ vscale f.x l.x → b ≡ vscale f.y l.y → s ≡ vadd a b → c ≡ vscale f.z l.z → t ≡ vadd s c → r ≡ vadd o t → r ≡ placed o (axes_of f) l
unfolding placed
placed_is o l a b c s t r f ea eb es ec et er = rw (er, et, es, ea, eb, ec) refl
