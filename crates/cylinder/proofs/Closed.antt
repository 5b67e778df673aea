-- FORMAT 17.8: where its pairs come round, each edge of a cylinder with its side, its top and its bottom has its way back, as often, by the places of its ends.
use mathlib.Core.Path.{◌≡◌, refl, sym, ap, ◌∙◌}
use mathlib.Core.Bool.{true, false}
use mathlib.Core.List.{List, [], ◌++◌, append_assoc, append-nil}
use mathlib.Core.Logic.{⊎_elim}
use Prim.Native.Nat.{ℕ, suc, ◌+◌, ◌*◌, ◌%◌, ◌≤◌, ◌<◌}
use native.Mathlib.Nat.{add_assoc, add-zero, eq-or-lt_of_le}
use native.Mathlib.Numerals.{add-one}
use native.Mathlib.Omega.{arith}
use lib.ListN.{length, get_or, take, drop, length-append, get_or-append}
use lib.Seq.{get_or-append-add}
use lib.Ieee.{Float, binary32, mul, div, neg}
use Rattle.math.specs.declared.vector.V3.{V3}
use Rattle.math.specs.Vector.{v3, zero_f, one_f, two_f}
use Rattle.lists.specs.Lists.{flat}
use Rattle.lists.specs.Loops.{tab}
use Rattle.lists.proofs.Lists.{in_part}
use Rattle.lists.proofs.Loops.{on_last, on_more}
use Rattle.lists.proofs.Pieces.{piece_at}
use Rattle.lists.proofs.Tabs.{tab_at}
use Rattle.parts.specs.declared.cap.Cap.{Cap}
use Rattle.parts.specs.declared.ring.Ring.{Ring}
use Rattle.parts.specs.declared.vert.Vert.{Vert}
use Rattle.parts.specs.Ring.{ring_at}
use Rattle.parts.specs.Sizes.{dim_of, held_to}
use Rattle.parts.specs.Part.{followed}
use Rattle.parts.specs.Cap.{cap_centre, cap_vert, cap_verts, cap_tri, cap_indices, cap_part, cap_at}
use Rattle.parts.specs.Edges.{edge_sum, place_in, Closed}
use Rattle.parts.proofs.Capping.{cap_verts_length}
use Rattle.lists.proofs.Totals.{sum_to, sum_same, sum_both, around}
use Rattle.parts.proofs.Edges.{pieces_sum}
use Rattle.cylinder.specs.Cylinder.{side_vert, side_verts, side_tris, side_part, side_at, side_sizes, cylinder_part, cylinder_of}
use Rattle.cylinder.proofs.Sides.{side_sized}

-- the pairs of the side come round, and those of the caps are the same
pub record Repeats (ps : List Float) (n : ℕ) : Type 0 where
  pub round : ring_at ps n ≡ ring_at ps 0
  pub top : (i : ℕ) → i < n → ring_at ps (n + 1 + i) ≡ ring_at ps i
  pub bottom : (i : ℕ) → i < n → ring_at ps (n + 1 + n + i) ≡ ring_at ps i

module _ (ps : List Float) (r h : Float) (n : ℕ) (Q : Repeats ps n) where
  abbrev sides : List Vert
  sides = (side_part ps r h n).verts

  abbrev upper : Cap
  upper = record { y = h; r = r; slices = n; top = true; first = length sides; pair = n + 1 }

  abbrev lower : Cap
  lower = record { y = neg h; r = r; slices = n; top = false; first = length (sides ++ cap_verts ps upper); pair = n + 1 + n }

  abbrev verts : List Vert
  verts = (sides ++ cap_verts ps upper) ++ cap_verts ps lower

  -- vertex i of the ring at height y
  abbrev P : Float → ℕ → V3
  P y i = v3 (mul binary32 (ring_at ps i).x r) y (mul binary32 (ring_at ps i).z r)

  abbrev centre : Float → V3
  centre y = v3 zero_f y zero_f

  comes_round : (y : Float) → P y n ≡ P y 0
  comes_round y = ap (λ (q : Ring). v3 (mul binary32 q.x r) y (mul binary32 q.z r)) Q.round

  -- ---- where the vertices stand

  module _ (d : Vert) where
    abbrev place : ℕ → V3
    place i = place_in verts d i

    sides_length : 2 * (n + 1) ≡ length sides
    unfolding side_sizes
    sides_length = (side_sized ps r h n).vertices

    side_vert_lem : (i c : ℕ) → i < n + 1 → c < 2 → get_or sides (i * 2 + c) d ≡ get_or (side_verts ps r h n i) c d
    unfolding side_part side_verts
    side_vert_lem i c b e =
        let q : take 2 (drop (i * 2) sides) ≡ side_verts ps r h n i = piece_at (side_verts ps r h n) 2 (λ t. refl) (n + 1) i b in
        let w : length (take 2 (drop (i * 2) sides)) ≡ 2 = ap length q in
        (in_part d sides (i * 2) 2 c (omega (arith, e, w))).1 ∙ ap (λ (l : List Vert). get_or l c d) q

    in_sides : (j : ℕ) → j < length sides → get_or verts j d ≡ get_or sides j d
    in_sides j b =
        get_or-append (sides ++ cap_verts ps upper) (cap_verts ps lower) d j (omega (arith, b, length-append sides (cap_verts ps upper)))
        ∙ get_or-append sides (cap_verts ps upper) d j b

    low_at : (i j : ℕ) → j ≡ 2 * i → i < n + 1 → place j ≡ P (neg h) i
    unfolding side_verts side_vert
    low_at i j e b =
        let w : j ≡ i * 2 + 0 = omega (arith, e) in
        let s : i * 2 + 0 < length sides = omega (arith, b, sides_length) in
        ap (λ (k : ℕ). place_in verts d k) w ∙ ap (λ (v : Vert). v.position) (in_sides (i * 2 + 0) s ∙ side_vert_lem i 0 b (omega arith))

    high_at : (i j : ℕ) → j ≡ 2 * i + 1 → i < n + 1 → place j ≡ P h i
    unfolding side_verts side_vert
    high_at i j e b =
        let w : j ≡ i * 2 + 1 = omega (arith, e) in
        let s : i * 2 + 1 < length sides = omega (arith, b, sides_length) in
        ap (λ (k : ℕ). place_in verts d k) w ∙ ap (λ (v : Vert). v.position) (in_sides (i * 2 + 1) s ∙ side_vert_lem i 1 b (omega arith))

    in_upper : (j : ℕ) → j < n + 1 → get_or verts (length sides + j) d ≡ get_or (cap_verts ps upper) j d
    in_upper j b =
        get_or-append (sides ++ cap_verts ps upper) (cap_verts ps lower) d (length sides + j) (omega (arith, b, length-append sides (cap_verts ps upper), cap_verts_length ps upper))
        ∙ get_or-append-add sides (cap_verts ps upper) j d

    in_lower : (j : ℕ) → get_or verts (length (sides ++ cap_verts ps upper) + j) d ≡ get_or (cap_verts ps lower) j d
    in_lower j = get_or-append-add (sides ++ cap_verts ps upper) (cap_verts ps lower) j d

    centre_vert : (k : Cap) → (get_or (cap_verts ps k) 0 d).position ≡ centre k.y
    unfolding cap_verts cap_centre
    centre_vert k = refl

    ring_vert : (k : Cap) (i : ℕ) → i < k.slices → get_or (cap_verts ps k) (suc i) d ≡ cap_vert ps k i
    unfolding cap_verts
    ring_vert k i b = tab_at (cap_vert ps k) k.slices i d b

    top_centre : place (length sides) ≡ centre h
    top_centre =
        ap (λ (k : ℕ). place_in verts d k) (sym (add-zero (length sides))) ∙ ap (λ (v : Vert). v.position) (in_upper 0 (omega arith)) ∙ centre_vert upper

    bottom_centre : place (length (sides ++ cap_verts ps upper)) ≡ centre (neg h)
    bottom_centre =
        ap (λ (k : ℕ). place_in verts d k) (sym (add-zero (length (sides ++ cap_verts ps upper)))) ∙ ap (λ (v : Vert). v.position) (in_lower 0) ∙ centre_vert lower

    top_at : (i j : ℕ) → j ≡ length sides + 1 + i → i < n → place j ≡ P h i
    unfolding cap_vert
    top_at i j e b =
        let w : j ≡ length sides + suc i = omega (arith, e) in
        ap (λ (k : ℕ). place_in verts d k) w ∙ ap (λ (v : Vert). v.position) (in_upper (suc i) (omega arith) ∙ ring_vert upper i b)
        ∙ ap (λ (q : Ring). v3 (mul binary32 q.x r) h (mul binary32 q.z r)) (Q.top i b)

    bottom_at : (i j : ℕ) → j ≡ length (sides ++ cap_verts ps upper) + 1 + i → i < n → place j ≡ P (neg h) i
    unfolding cap_vert
    bottom_at i j e b =
        let w : j ≡ length (sides ++ cap_verts ps upper) + suc i = omega (arith, e) in
        ap (λ (k : ℕ). place_in verts d k) w ∙ ap (λ (v : Vert). v.position) (in_lower (suc i) ∙ ring_vert lower i b)
        ∙ ap (λ (q : Ring). v3 (mul binary32 q.x r) (neg h) (mul binary32 q.z r)) (Q.bottom i b)

    -- the next vertex of a cap, which closes
    next_at : (y : Float) (f : ℕ) → ((i j : ℕ) → j ≡ f + 1 + i → i < n → place j ≡ P y i) → (i : ℕ) → i < n → place (f + 1 + (i + 1) % n) ≡ P y (suc i)
    next_at y f known i b = ⊎_elim last less (eq-or-lt_of_le (let q : i + 1 ≤ n = omega arith in q))
      where
        last : i + 1 ≡ n → place (f + 1 + (i + 1) % n) ≡ P y (suc i)
        last e = known 0 (f + 1 + (i + 1) % n) (omega (arith, on_last n i b e)) (omega arith) ∙ sym (comes_round y) ∙ ap (P y) (sym e ∙ add-one i)

        less : i + 1 < n → place (f + 1 + (i + 1) % n) ≡ P y (suc i)
        less l = known (i + 1) (f + 1 + (i + 1) % n) (omega (arith, on_more n i b (λ e. omega arith))) l ∙ ap (P y) (add-one i)

    -- ---- the edges of slice i, and of all

    module _ (g : V3 → V3 → ℕ) where
      abbrev f : ℕ → ℕ → ℕ
      f i j = g (place i) (place j)

      abbrev side_edges : ℕ → ℕ
      side_edges i =
          let a = P (neg h) i in
          let b = P (neg h) (suc i) in
          let c = P h (suc i) in
          let e = P h i in
          (g a b + g b c + g c a) + (g a c + g c e + g e a)

      abbrev top_edges : ℕ → ℕ
      top_edges i = g (centre h) (P h i) + g (P h i) (P h (suc i)) + g (P h (suc i)) (centre h)

      abbrev bottom_edges : ℕ → ℕ
      bottom_edges i = g (centre (neg h)) (P (neg h) (suc i)) + g (P (neg h) (suc i)) (P (neg h) i) + g (P (neg h) i) (centre (neg h))

      abbrev side_by : ℕ → ℕ
      side_by i =
          let a = 2 * i in
          (f a (a + 2) + f (a + 2) (a + 3) + f (a + 3) a) + (f a (a + 3) + f (a + 3) (a + 1) + f (a + 1) a)

      abbrev top_by : ℕ → ℕ
      top_by i =
          let m = length sides in
          f m (m + 1 + i) + f (m + 1 + i) (m + 1 + (i + 1) % n) + f (m + 1 + (i + 1) % n) m

      abbrev bottom_by : ℕ → ℕ
      bottom_by i =
          let m = length (sides ++ cap_verts ps upper) in
          f m (m + 1 + (i + 1) % n) + f (m + 1 + (i + 1) % n) (m + 1 + i) + f (m + 1 + i) m

      side_piece : (t : ℕ) (y : List ℕ) → edge_sum f (side_tris t ++ y) ≡ side_by t + edge_sum f y
      unfolding side_tris edge_sum
      side_piece t y = sym (add_assoc _ _ (edge_sum f y))

      top_piece : (t : ℕ) (y : List ℕ) → edge_sum f (cap_tri upper t ++ y) ≡ top_by t + edge_sum f y
      unfolding cap_tri edge_sum
      top_piece t y = refl

      bottom_piece : (t : ℕ) (y : List ℕ) → edge_sum f (cap_tri lower t ++ y) ≡ bottom_by t + edge_sum f y
      unfolding cap_tri edge_sum
      bottom_piece t y = refl

      side_is : (i : ℕ) → i < n → side_by i ≡ side_edges i
      side_is i l =
          let a = low_at i (2 * i) refl (omega arith) in
          let b = low_at (suc i) (2 * i + 2) (omega arith) (omega arith) in
          let c = high_at (suc i) (2 * i + 3) (omega arith) (omega arith) in
          let e = high_at i (2 * i + 1) refl (omega arith) in
          λ t. (g (a t) (b t) + g (b t) (c t) + g (c t) (a t)) + (g (a t) (c t) + g (c t) (e t) + g (e t) (a t))

      top_is : (i : ℕ) → i < n → top_by i ≡ top_edges i
      top_is i l =
          let m = top_centre in
          let a = top_at i (length sides + 1 + i) refl l in
          let c = next_at h (length sides) top_at i l in
          λ t. g (m t) (a t) + g (a t) (c t) + g (c t) (m t)

      bottom_is : (i : ℕ) → i < n → bottom_by i ≡ bottom_edges i
      bottom_is i l =
          let m = bottom_centre in
          let a = bottom_at i (length (sides ++ cap_verts ps upper) + 1 + i) refl l in
          let c = next_at (neg h) (length (sides ++ cap_verts ps upper)) bottom_at i l in
          λ t. g (m t) (c t) + g (c t) (a t) + g (a t) (m t)

      no_edges : edge_sum f [] ≡ 0
      unfolding edge_sum
      no_edges = refl

      all_edges : edge_sum f ((flat (tab side_tris n 0) ++ cap_indices upper) ++ cap_indices lower) ≡ sum_to (λ i. side_edges i + (top_edges i + bottom_edges i)) n
      unfolding cap_indices
      all_edges =
          let x : List ℕ = flat (tab side_tris n 0) in
          let y : List ℕ = cap_indices upper in
          let z : List ℕ = cap_indices lower in
          let p : edge_sum f ((x ++ y) ++ z) ≡ edge_sum f (x ++ (y ++ (z ++ []))) =
          ap (edge_sum f) (append_assoc x y z ∙ ap (λ (l : List ℕ). x ++ (y ++ l)) (sym (append-nil z))) in
          let a = pieces_sum f side_tris side_by side_piece n (y ++ (z ++ [])) in
          let b = pieces_sum f (cap_tri upper) top_by top_piece n (z ++ []) in
          let c = pieces_sum f (cap_tri lower) bottom_by bottom_piece n [] in
          let s = sum_same side_by side_edges n side_is in
          let u = sum_same top_by top_edges n top_is in
          let v = sum_same bottom_by bottom_edges n bottom_is in
          omega (arith, p, a, b, c, no_edges, s, u, v, sum_both top_edges bottom_edges n, sum_both side_edges (λ i. top_edges i + bottom_edges i) n)

    -- ---- and their ways back

    module _ (g : V3 → V3 → ℕ) where
      abbrev back : V3 → V3 → ℕ
      back x y = g y x

      abbrev slice : (V3 → V3 → ℕ) → ℕ → ℕ
      slice k i = side_edges k i + (top_edges k i + bottom_edges k i)

      -- of the edges from the middle of the top over the side to that of the bottom, along i
      abbrev along : (V3 → V3 → ℕ) → ℕ → ℕ
      along k i = k (P h i) (P (neg h) i) + k (centre h) (P h i) + k (P (neg h) i) (centre (neg h))

      along_round : (k : V3 → V3 → ℕ) → along k n ≡ along k 0
      along_round k =
          let a = comes_round h in
          let b = comes_round (neg h) in
          λ t. k (a t) (b t) + k (centre h) (a t) + k (b t) (centre (neg h))

      slices_closed : sum_to (slice g) n ≡ sum_to (slice back) n
      slices_closed = around (slice g) (slice back) (along g) (along back) n (λ i l. omega arith) (along_round g) (along_round back)

      part_closed : edge_sum (λ i j. g (place i) (place j)) ((flat (tab side_tris n 0) ++ cap_indices upper) ++ cap_indices lower)
          ≡ edge_sum (λ i j. g (place j) (place i)) ((flat (tab side_tris n 0) ++ cap_indices upper) ++ cap_indices lower)
      part_closed = all_edges g ∙ slices_closed ∙ sym (all_edges back)

pub cylinder_closed : (radius height : Float) (slices : ℕ) (ps : List Float) → Repeats ps (held_to slices 3)
    → Closed (cylinder_of radius height true true true slices ps).verts (cylinder_of radius height true true true slices ps).indices
unfolding cylinder_of cylinder_part followed side_at side_part cap_at cap_part
cylinder_closed radius height slices ps Q d g = part_closed ps (dim_of radius one_f) (div binary32 (dim_of height two_f) two_f) (held_to slices 3) Q d g
