-- FORMAT 8.4: the axes by number are the axes as extrusion_frames makes them.
use mathlib.Core.Path.{◌≡◌, refl, sym, ap, ap₂, ◌∙◌}
use mathlib.Core.Bool.{Bool, true, false, not, ◌&&◌, cond}
use mathlib.Core.List.{List, [], ◌∷◌}
use Prim.Native.Nat.{ℕ, zero, suc, ◌+◌, ◌-◌, ◌≤◌, ◌<◌}
use native.Mathlib.Nat.{zero-add, add-zero, add-suc, suc-add}
use native.Mathlib.Omega.{arith}
use borrow.Author.Tests.{ltb-true, ltb-false, lt-ltb, le-ltb, eq-eqb, ne_eqb, eqb-true, eqb-false}
use lib.Dec.{eqb, ltb}
use lib.ListN.{length, get_or, set, replicate, length-set}
use lib.Seq.{get_or-set_same, get_or-set_other, ext_get_or}
use Rattle.math.specs.declared.vector.V3.{V3}
use Rattle.std.specs.Prelude.{Option}
use Rattle.std.specs.Prelude.{Some, None}
use Rattle.math.specs.Vector.{y_axis}
use Rattle.lists.specs.Loops.{tab}
use Rattle.lists.proofs.Tabs.{length_tab, tab_at, tab_same}
use Rattle.mesh.specs.Normals.{or_else}
use Rattle.mesh.specs.Frames.{Axes, or, first_of, last_of, closed, is_end, y_own, first_y, y_at, bend, z_end, z_own, first_z, pick_z, prev_z, bent, straight, axes_by, axes_at}
use Rattle.mesh.specs.SourceFrames.{forward, head_of, backward, first, ys, z_raw, copy_ends, zs, walk, frames_by, source_frames}

-- ---- the fills

or_none : (u : (Option V3)) → or u None ≡ u
or_none (Some v) = refl
or_none None = refl

or_or : (u v w : (Option V3)) → or (or u v) w ≡ or u (or v w)
or_or (Some x) v w = refl
or_or None v w = refl

or_twice : (u v : (Option V3)) → or u (or u v) ≡ or u v
or_twice (Some x) v = refl
or_twice None v = refl

head_first : (l : List (Option V3)) → head_of (forward (first l) l) ≡ first l
unfolding forward first
head_first [] = refl
head_first (u ∷ us) = or_twice u (first us)

head_filled : (q : (Option V3)) (l : List (Option V3)) → or q (head_of (forward (or q (first l)) l)) ≡ or q (first l)
head_filled (Some v) l = refl
head_filled None l = head_first l

start_same : (u p f : (Option V3)) → or (or u p) f ≡ or u (or p (or u f))
start_same (Some v) p f = refl
start_same None p f = refl

-- filled backwards after forwards is filled forwards from the first that is there
backward_is : (p : (Option V3)) (l : List (Option V3)) → backward (forward p l) ≡ forward (or p (first l)) l
unfolding forward backward first
backward_is p [] = refl
backward_is p (u ∷ us) =
    let e : backward (forward (or u p) us) ≡ forward (or (or u p) (first us)) us = backward_is (or u p) us in
    ap₂ (λ (x : (Option V3)) (l : List (Option V3)). x ∷ l) (ap (λ (l : List (Option V3)). or (or u p) (head_of l)) e ∙ head_filled (or u p) us) e
    ∙ ap (λ (s : (Option V3)). s ∷ forward s us) (start_same u p (first us))

forward_tab : (p : (Option V3)) (f : ℕ → (Option V3)) (k i : ℕ) → forward (last_of p f i) (tab f k i) ≡ tab (λ t. last_of p f (suc t)) k i
unfolding forward tab last_of
forward_tab p f zero i = refl
forward_tab p f (suc k) i = ap (λ (l : List (Option V3)). last_of p f (suc i) ∷ l) (forward_tab p f k (suc i))

first_from : (f : ℕ → (Option V3)) (k i : ℕ) → or (first_of f i) (first (tab f k i)) ≡ first_of f (i + k)
unfolding first tab first_of
first_from f zero i = or_none (first_of f i) ∙ ap (first_of f) (sym (add-zero i))
first_from f (suc k) i = sym (or_or (first_of f i) (f i) (first (tab f k (suc i)))) ∙ first_from f k (suc i) ∙ ap (first_of f) (suc-add i k ∙ sym (add-suc i k))

first_tab : (f : ℕ → (Option V3)) (n : ℕ) → first (tab f n 0) ≡ first_of f n
unfolding first_of
first_tab f n = first_from f n 0 ∙ ap (first_of f) (zero-add n)

first_filled : (l : List (Option V3)) → first (forward None l) ≡ first l
unfolding forward first
first_filled [] = refl
first_filled (Some v ∷ us) = refl
first_filled (None ∷ us) = first_filled us

first_forward : (s : (Option V3)) (l : List (Option V3)) → s ≡ first l → first (forward s l) ≡ s
unfolding forward first
first_forward s [] e = sym e
first_forward (Some v) (Some w ∷ us) e = sym e
first_forward (Some v) (None ∷ us) e = refl
first_forward None (u ∷ us) e = first_filled (u ∷ us) ∙ sym e

ys_forward : (sp : List V3) → ys sp ≡ forward (first_y sp) (tab (y_own sp) (length sp) 0)
unfolding ys first_y
ys_forward sp = backward_is None (tab (y_own sp) (length sp) 0) ∙ ap (λ (s : (Option V3)). forward s (tab (y_own sp) (length sp) 0)) (first_tab (y_own sp) (length sp))

ys_is : (sp : List V3) → ys sp ≡ tab (y_at sp) (length sp) 0
unfolding y_at last_of
ys_is sp = ys_forward sp ∙ forward_tab (first_y sp) (y_own sp) (length sp) 0

first_y_lem : (sp : List V3) → first (ys sp) ≡ first_y sp
unfolding first_y
first_y_lem sp = ap first (ys_forward sp) ∙ first_forward (first_y sp) (tab (y_own sp) (length sp) 0) (sym (first_tab (y_own sp) (length sp)))

-- ---- the Z axes

module _ (sp : List V3) where
  -- where nothing is copied, each point has its own
  own_closed : (i : ℕ) → closed sp ≡ true → z_raw sp i ≡ z_own sp i
  unfolding z_raw z_own z_end
  own_closed i h = rw h refl

  own_short : (i : ℕ) → closed sp ≡ false → length sp ≤ 2 → z_raw sp i ≡ z_own sp i
  unfolding z_raw z_own z_end
  own_short i h l = rw (h, le-ltb 2 (length sp) l) refl

  own_inner : (i : ℕ) → is_end (length sp) i ≡ false → z_raw sp i ≡ z_own sp i
  unfolding z_raw z_own
  own_inner i h = rw h refl

  raw_inner : (i : ℕ) → is_end (length sp) i ≡ false → z_raw sp i ≡ bend sp (i - 1) i (i + 1)
  unfolding z_raw
  raw_inner i h = rw h refl

  own_first : closed sp ≡ false → 2 < length sp → bend sp 0 1 2 ≡ z_own sp 0
  unfolding z_own z_end
  own_first h l = rw (h, lt-ltb 2 (length sp) l) refl

  own_last : (i : ℕ) → i ≡ length sp - 1 → closed sp ≡ false → 2 < length sp → bend sp (length sp - 3) (length sp - 2) (length sp - 1) ≡ z_own sp i
  unfolding z_own z_end
  own_last i e h l = rw (ne_eqb i 0 (λ z. omega arith), eq-eqb i (length sp - 1) e, h, lt-ltb 2 (length sp) l) refl

  inner_is : (i : ℕ) → 0 < i → i + 1 < length sp → is_end (length sp) i ≡ false
  inner_is i h g = rw (ne_eqb i 0 (λ e. omega arith), ne_eqb i (length sp - 1) (λ e. omega arith)) refl

  raw : List (Option V3)
  raw = tab (z_raw sp) (length sp) 0

  len : length raw ≡ length sp
  unfolding raw
  len = length_tab (z_raw sp) (length sp) 0

  raw_at : (i : ℕ) → i < length sp → get_or raw i None ≡ z_raw sp i
  unfolding raw
  raw_at i l = tab_at (z_raw sp) (length sp) i None l

  next : List (Option V3)
  next = set raw 0 (get_or raw 1 None)

  copied_at : closed sp ≡ false → 2 < length sp → (i : ℕ) (p q : Bool) → eqb i 0 ≡ p → eqb i (length sp - 1) ≡ q → i < length sp
      → get_or (set next (length sp - 1) (get_or next (length sp - 2) None)) i None ≡ z_own sp i
  unfolding next
  copied_at h l i p true e f g =
      let z : i ≡ length sp - 1 = eqb-true i (length sp - 1) f in
      let n1 : length next ≡ length sp = length-set raw 0 (get_or raw 1 None) ∙ len in
      let a : (length sp - 2) - 1 ≡ length sp - 3 = omega arith in
      let b : (length sp - 2) + 1 ≡ length sp - 1 = omega arith in
      rw z (get_or-set_same next (length sp - 1) (get_or next (length sp - 2) None) None (omega arith)
      ∙ get_or-set_other raw 0 (length sp - 2) (get_or raw 1 None) None (λ e. omega arith)
      ∙ raw_at (length sp - 2) (omega arith)
      ∙ raw_inner (length sp - 2) (inner_is (length sp - 2) (omega arith) (omega arith))
      ∙ rw (a, b) refl
      ∙ own_last (length sp - 1) refl h l)
  copied_at h l i true false e f g =
      let z : i ≡ 0 = eqb-true i 0 e in
      rw z (get_or-set_other next (length sp - 1) 0 (get_or next (length sp - 2) None) None (λ e. omega arith)
      ∙ get_or-set_same raw 0 (get_or raw 1 None) None (omega (arith, len))
      ∙ raw_at 1 (omega arith)
      ∙ raw_inner 1 (inner_is 1 (omega arith) (omega arith))
      ∙ own_first h l)
  copied_at h l i false false e f g =
      get_or-set_other next (length sp - 1) i (get_or next (length sp - 2) None) None (eqb-false i (length sp - 1) f)
      ∙ get_or-set_other raw 0 i (get_or raw 1 None) None (eqb-false i 0 e)
      ∙ raw_at i g
      ∙ own_inner i (rw (e, f) refl)

  copied : closed sp ≡ false → 2 < length sp → copy_ends (length sp) raw ≡ tab (z_own sp) (length sp) 0
  unfolding copy_ends next
  copied h l =
      let long : length (set next (length sp - 1) (get_or next (length sp - 2) None)) ≡ length sp = simp length-set len in
      ext_get_or None (set next (length sp - 1) (get_or next (length sp - 2) None)) (tab (z_own sp) (length sp) 0)
      (long ∙ sym (length_tab (z_own sp) (length sp) 0))
      (λ i b.
      let g : i < length sp = omega arith in
      copied_at h l i (eqb i 0) (eqb i (length sp - 1)) refl refl g ∙ sym (tab_at (z_own sp) (length sp) i None g))

  zs_is : zs sp ≡ tab (z_own sp) (length sp) 0
  unfolding zs raw
  zs_is = go (closed sp) (ltb 2 (length sp)) refl refl
    where
      go : (k t : Bool) → closed sp ≡ k → ltb 2 (length sp) ≡ t
          → cond (not k && t) (copy_ends (length sp) (tab (z_raw sp) (length sp) 0)) (tab (z_raw sp) (length sp) 0) ≡ tab (z_own sp) (length sp) 0
      go true t e f = tab_same (z_raw sp) (z_own sp) (length sp) (λ i b. own_closed i e)
      go false true e f = copied e (ltb-true 2 (length sp) f)
      go false false e f = tab_same (z_raw sp) (z_own sp) (length sp) (λ i b. own_short i e (ltb-false 2 (length sp) f))

-- ---- the walk

walk_tab : (f : (Option V3)) (y z p : ℕ → (Option V3)) → ((i : ℕ) → p (suc i) ≡ Some (pick_z f (p i) (z i))) → (k i : ℕ)
    → walk f (p i) (tab y k i) (tab z k i) ≡ tab (λ t. bent (or_else (y t) y_axis) (pick_z f (p t) (z t))) k i
unfolding walk tab
walk_tab f y z p h zero i = refl
walk_tab f y z p h (suc k) i =
    ap (λ (u : (Option V3)). bent (or_else (y i) y_axis) (pick_z f (p i) (z i)) ∷ walk f u (tab y k (suc i)) (tab z k (suc i))) (sym (h i))
    ∙ ap (λ (l : List Axes). bent (or_else (y i) y_axis) (pick_z f (p i) (z i)) ∷ l) (walk_tab f y z p h k (suc i))

replicate_tab : (x : Axes) (n i : ℕ) → replicate n x ≡ tab (λ t. x) n i
unfolding tab
replicate_tab x zero i = refl
replicate_tab x (suc n) i = ap (λ (l : List Axes). x ∷ l) (replicate_tab x n (suc i))

module _ (sp : List V3) where
  prev_next : (i : ℕ) → prev_z sp (suc i) ≡ Some (pick_z (first_z sp) (prev_z sp i) (z_own sp i))
  unfolding prev_z
  prev_next i = refl

  prev_start : prev_z sp 0 ≡ None
  unfolding prev_z
  prev_start = refl

  first_z_lem : first (zs sp) ≡ first_z sp
  unfolding first_z
  first_z_lem = ap first (zs_is sp) ∙ first_tab (z_own sp) (length sp)

  axes_at_lem : (i : ℕ) (f : (Option V3)) → first_z sp ≡ f → axes_at sp i ≡ axes_by f (first_y sp) (y_at sp i) (pick_z f (prev_z sp i) (z_own sp i))
  unfolding axes_at
  axes_at_lem i f e = rw e refl

  -- THE SOURCE'S FRAMES are the axes by number
  pub frames_source : source_frames sp ≡ tab (axes_at sp) (length sp) 0
  unfolding source_frames
  frames_source = (λ i. frames_by (first_z_lem i) (ys_is sp i) (zs_is sp i)) ∙ go (first_z sp) refl
    where
      go : (f : (Option V3)) → first_z sp ≡ f → frames_by f (tab (y_at sp) (length sp) 0) (tab (z_own sp) (length sp) 0) ≡ tab (axes_at sp) (length sp) 0
      go (Some v) e =
          ap (λ (p : (Option V3)). walk (Some v) p (tab (y_at sp) (length sp) 0) (tab (z_own sp) (length sp) 0)) (sym prev_start)
          ∙ walk_tab (Some v) (y_at sp) (z_own sp) (prev_z sp) (λ i. prev_next i ∙ ap (λ (u : (Option V3)). Some (pick_z u (prev_z sp i) (z_own sp i))) e) (length sp) 0
          ∙ tab_same _ (axes_at sp) (length sp) (λ i l. sym (axes_at_lem i (Some v) e))
      go None e =
          ap₂ (λ (n : ℕ) (u : (Option V3)). replicate n (straight u)) (length_tab (y_at sp) (length sp) 0) (ap first (sym (ys_is sp)) ∙ first_y_lem sp)
          ∙ replicate_tab (straight (first_y sp)) (length sp) 0
          ∙ tab_same _ (axes_at sp) (length sp) (λ i l. sym (axes_at_lem i None e))
