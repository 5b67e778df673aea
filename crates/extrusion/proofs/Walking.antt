-- FORMAT 8.4: the loops that write the points.
use mathlib.Core.Path.{◌≡◌, refl, sym, ap, ◌∙◌}
use mathlib.Core.List.{List, map}
use Prim.Native.Nat.{ℕ, suc, ◌+◌, ◌*◌, ◌≤◌, ◌<◌}
use native.Mathlib.Numerals.{add-one}
use lib.ListN.{length}
use Rattle.math.specs.declared.vector.V3.{V3}
use Rattle.std.specs.Prelude.{Option}
use Rattle.std.specs.Prelude.{Some, None}
use Rattle.std.specs.Option.{option_or}
use Rattle.mesh.proofs.Options.{option_or_is}
use Rattle.math.specs.declared.quaternion.Quat.{Quat}
use Rattle.block.specs.declared.texture.Pair.{Pair}
use Rattle.lists.specs.Loops.{tab}
use Rattle.lists.proofs.Tabs.{map_tab, tab_list}
use Rattle.lists.specs.Lists.{flat}
use Rattle.mesh.specs.Words.{words3, bits}
use Rattle.mesh.specs.Frames.{Axes, at, last_of, first_y, y_own, y_at, first_z, z_own, pick_z, prev_z, axes_by, axes_at}
use Rattle.mesh.specs.Arcs.{at2}
use Rattle.mesh.specs.Extrusion.{local, placed, row_words, turn_at, scale_at}
use Rattle.lists.proofs.Lists.{length_words}
use Rattle.lists.specs.Parts.{spliced}
use Rattle.extrusion.specs.declared.axes.PlaneAxes.{PlaneAxes}
use Rattle.extrusion.specs.Rows.{axes_of, row_by}
use Rattle.lists.proofs.Pieces.{Pieces, pieces_none, pieces_more}
use Rattle.extrusion.proofs.Planes.{last_step}

-- ---- one row

module _ (o : V3) (a : Axes) (q : Quat) (sc : Pair) where
  -- the words of one point
  unfoldable pub spot_words : Pair → List ℕ
  spot_words p = words3 (bits (placed o a (local q sc p)))

  -- the words of point j of the cross-section cs
  unfoldable pub spot_of : List Pair → ℕ → List ℕ
  spot_of cs j = spot_words (at2 cs j)

  pub spot_length : (cs : List Pair) (j : ℕ) → length (spot_of cs j) ≡ 3
  unfolding spot_of spot_words
  spot_length cs j = refl

  pub spot_is : (cs : List Pair) (j : ℕ) (p : Pair) (u v : V3) → p ≡ at2 cs j → u ≡ local q sc p → v ≡ placed o a u → words3 (bits v) ≡ spot_of cs j
  unfolding spot_of spot_words
  spot_is cs j p u v ep eu ev = rw (ev, eu, ep) refl

  pub row_is : (cs : List Pair) (m : ℕ) → length cs ≡ m → flat (tab (spot_of cs) m 0) ≡ row_words o a q sc cs
  unfolding row_words spot_of spot_words at2
  row_is cs m e = ap flat (sym (map_tab (λ j. at2 cs j) spot_words m 0) ∙ ap (map spot_words) (tab_list _ cs m e))

pub row_length : (sp : List V3) (cs scs : List Pair) (qs : List Quat) (m i : ℕ) → m ≡ length cs → length (row_by sp cs scs qs i) ≡ 3 * m
unfolding row_by row_words
row_length sp cs scs qs m i e = length_words _ 3 (λ p. refl) cs ∙ ap (λ (k : ℕ). 3 * k) (sym e)

-- ---- the walk along the spine

-- the state before point i
pub record Walked (sp : List V3) (cs scs : List Pair) (qs : List Quat) (n : ℕ) (l : List ℕ) (k i : ℕ) (work : List ℕ) (y prev : (Option V3)) : Type 0 where
  pub y_is : y ≡ last_of (first_y sp) (y_own sp) i
  pub prev_is : prev ≡ prev_z sp i
  pub rows : Pieces (row_by sp cs scs qs) n l k i work

module _ (sp : List V3) (cs scs : List Pair) (qs : List Quat) where
  pub walk_start : (n : ℕ) (l : List ℕ) (k : ℕ) (y : (Option V3)) → y ≡ first_y sp → Walked sp cs scs qs n l k 0 l y None
  unfolding last_of prev_z
  walk_start n l k y e = record { y_is = e; prev_is = refl; rows = pieces_none }

  axes_is : (i : ℕ) (first y₀ y own y' prev z : (Option V3)) (v : V3) (f : Axes) → first ≡ first_z sp → y₀ ≡ first_y sp → y ≡ last_of (first_y sp) (y_own sp) i → own ≡ y_own sp i → y' ≡ option_or own y
      → prev ≡ prev_z sp i → z ≡ z_own sp i → v ≡ pick_z first prev z → f ≡ axes_by first y₀ y' v → f ≡ axes_at sp i
  unfolding axes_at y_at last_of
  axes_is i first y₀ y own y' prev z v f ef e₀ ey eo ey' ep ez ev er = rw (er, ev, ez, ep, ey', eo, ey, e₀, ef, option_or_is (y_own sp i) (last_of (first_y sp) (y_own sp) i)) refl

  prev_more : (i : ℕ) → prev_z sp (suc i) ≡ Some (pick_z (first_z sp) (prev_z sp i) (z_own sp i))
  unfolding prev_z
  prev_more i = refl

  row_by_lem : (i : ℕ) (o : V3) (f : Axes) (q : Quat) (sc : Pair) → o ≡ at sp i → f ≡ axes_at sp i → q ≡ turn_at qs i → sc ≡ scale_at scs i → row_words o f q sc cs ≡ row_by sp cs scs qs i
  unfolding row_by
  row_by_lem i o f q sc eo ef eq es = rw (eo, ef, eq, es) refl

  pub walk_step : (n : ℕ) (l work work' : List ℕ) (k i m : ℕ) (first y₀ y own y' prev z : (Option V3)) (v o : V3) (f : PlaneAxes) (q : Quat) (sc : Pair)
      → Walked sp cs scs qs n l k i work y prev → m ≡ length cs → k + n * (3 * m) ≤ length l → i < n
      → first ≡ first_z sp → y₀ ≡ first_y sp → own ≡ y_own sp i → y' ≡ option_or own y → z ≡ z_own sp i → v ≡ pick_z first prev z → axes_of f ≡ axes_by first y₀ y' v
      → o ≡ at sp i → q ≡ turn_at qs i → sc ≡ scale_at scs i
      → work' ≡ spliced work (k + i * (3 * m)) (row_words o (axes_of f) q sc cs)
      → Walked sp cs scs qs n l k (i + 1) work' y' (Some v)
  walk_step n l work work' k i m first y₀ y own y' prev z v o f q sc w em room h ef e₀ eo ey' ez ev er eO eQ eS ew =
      let fr : axes_of f ≡ axes_at sp i = axes_is i first y₀ y own y' prev z v (axes_of f) ef e₀ w.y_is eo ey' w.prev_is ez ev er in
      record {
        y_is = last_step _ _ _ _ _ _ w.y_is eo ey';
        prev_is = ap Some (ev ∙ (λ j. pick_z (ef j) (w.prev_is j) (ez j))) ∙ sym (prev_more i) ∙ ap (prev_z sp) (sym (add-one i));
        rows = pieces_more (3 * m) (λ t. row_length sp cs scs qs m t em) room w.rows h refl (row_by_lem i o (axes_of f) q sc eO fr eQ eS) ew;
      }
