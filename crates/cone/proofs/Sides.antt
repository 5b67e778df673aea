-- The side of a cone, and then its bottom: what is written, how large it is, and the call.
use mathlib.Core.Path.{◌≡◌, refl, ap, ◌∙◌}
use mathlib.Core.Bool.{Bool, true, false}
use mathlib.Core.List.{List, [], ◌∷◌}
use Prim.Native.Nat.{ℕ, ◌+◌, ◌*◌, ◌≤◌}
use native.Mathlib.Omega.{arith}
use lib.ListN.{length}
use lib.Ieee.{Float, binary32, neg, add, div}
use Rattle.math.specs.Vector.{one_f, two_f}
use Rattle.std.specs.Prelude.{Option, unwrap_or}
use Rattle.std.specs.Bool.{then_some}
use Rattle.lists.proofs.Pieces.{length_pieces}
use Rattle.parts.specs.declared.cap.Cap.{Cap}
use Rattle.parts.specs.declared.sizes.PartSizes.{PartSizes}
use Rattle.parts.specs.declared.marks.Marks.{Marks}
use Rattle.parts.specs.declared.round.Round.{Round}
use Rattle.parts.specs.declared.builder.Builder.{Builder}
use Rattle.parts.specs.declared.vert.Vert.{Vert}
use Rattle.parts.specs.Ring.{share_of}
use Rattle.parts.specs.Sizes.{dim_of, held_to, sum_of, no_sizes, sizes_where, Small, piece_most}
use Rattle.parts.specs.Round.{marks_of}
use Rattle.parts.specs.Part.{Part}
use Rattle.parts.specs.Cap.{cap_at, cap_part, cap_sizes, Numbered}
use Rattle.parts.specs.Written.{Sized, Written, Roomy}
use Rattle.parts.proofs.Capping.{cap_sized}
use Rattle.parts.proofs.Parting.{where_sized, room_there, sum_none, where_small, sized_followed, roomy_first, roomy_next, written_followed, marks_there, sized_as}
use Rattle.cone.specs.Cone.{cone_foot, cone_apex, cone_verts, cone_tri, cone_side, cone_side_at, cone_side_sizes, cone_part, cone_of}

-- ---- the side

pub slice_is : (ps : List Float) (r h : Float) (n i : ℕ) {s0 s1 : Float} {u v w : Vert} → s0 ≡ share_of i n → s1 ≡ share_of (i + 1) n
    → u ≡ cone_foot ps r h (5 * i) (5 * i + 2) s0 → v ≡ cone_foot ps r h (5 * i + 1) (5 * i + 3) s1 → w ≡ cone_apex ps r h (5 * i + 4) (div binary32 (add binary32 s0 s1) two_f)
    → u ∷ v ∷ w ∷ [] ≡ cone_verts ps r h n i
unfolding cone_verts
slice_is ps r h n i e0 e1 eu ev ew =
    let a = eu ∙ ap (cone_foot ps r h (5 * i) (5 * i + 2)) e0 in
    let b = ev ∙ ap (cone_foot ps r h (5 * i + 1) (5 * i + 3)) e1 in
    let d = ew ∙ (λ t. cone_apex ps r h (5 * i + 4) (div binary32 (add binary32 (e0 t) (e1 t)) two_f)) in
    λ t. a t ∷ b t ∷ d t ∷ []

module _ (ps : List Float) (r h : Float) (n : ℕ) where
  verts_length : length (cone_side ps r h n).verts ≡ n * 3
  unfolding cone_side cone_verts
  verts_length = length_pieces (cone_verts ps r h n) 3 (λ t. refl) n

  tris_length : length (cone_side ps r h n).indices ≡ n * 3
  unfolding cone_side cone_tri
  tris_length = length_pieces cone_tri 3 (λ t. refl) n

  pub side_sized : Sized (cone_side ps r h n) (cone_side_sizes n)
  unfolding cone_side_sizes cone_side
  side_sized = record { vertices = omega (arith, verts_length); indices = omega (arith, tris_length); pairs = refl }

-- ---- sizes that fit

pub side_small : (n : ℕ) → n ≤ 1024 → Small piece_most (cone_side_sizes n)
unfolding cone_side_sizes
side_small n h = record { vertices = omega arith; indices = omega arith; pairs = omega arith }

-- ---- the side and the bottom

module _ (ps : List Float) (r h : Float) (n : ℕ) (side bottom : Bool) {m : Marks} (low : n ≤ 1024) (em : m ≡ marks_of (sizes_where side (cone_side_sizes n)) n false bottom) where
  abbrev S : Part
  S = cone_side_at ps side r h n

  abbrev D : ℕ → ℕ → Part
  D = cap_at ps bottom (neg (div binary32 h two_f)) r n false

  abbrev a : PartSizes
  a = sizes_where side (cone_side_sizes n)

  -- there is no top
  bottom_is : m.bottom ≡ a
  unfolding marks_of
  bottom_is = (λ t. (em t).bottom) ∙ sum_none a (cap_sizes n)

  all_is : m.all ≡ sum_of a (sizes_where bottom (cap_sizes n))
  unfolding marks_of
  all_is = (λ t. (em t).all) ∙ ap (λ (z : PartSizes). sum_of z (sizes_where bottom (cap_sizes n))) (sum_none a (cap_sizes n))

  abbrev pub cap_of : PartSizes → Cap
  cap_of z = record { y = neg (div binary32 h two_f); r = r; slices = n; top = false; first = z.vertices; pair = z.pairs }

  Z₁ : Sized S m.bottom
  unfolding cone_side_at
  Z₁ = rw bottom_is (where_sized (cone_side ps r h n) side (side_sized ps r h n))

  pub all_sized : Sized (cone_part ps r h n side bottom) m.all
  unfolding cone_part
  all_sized = rw all_is (sized_followed D (rw bottom_is at Z₁) (cap_sized ps bottom (cap_of a)))

  small_a : Small piece_most m.bottom
  small_a = rw bottom_is (where_small piece_most side (cone_side_sizes n) (side_small n low))

  pub lower_low : Numbered (cap_of m.bottom)
  lower_low = record { few = low; first_low = omega (arith, small_a.vertices); pair_low = omega (arith, small_a.pairs) }

  abbrev lower : Cap
  lower = cap_of m.bottom

  -- each is written where it is there
  module _ {b₀ : Builder} (R : Roomy (cone_part ps r h n side bottom) 0 0 b₀) where
    pub side_room : side ≡ true → Roomy (cone_side ps r h n) 0 0 b₀
    unfolding cone_part cone_side_at
    side_room = room_there (cone_side ps r h n) (roomy_first D Z₁ R)

    module _ {b₁ : Builder} (W₁ : Written S 0 0 b₀ b₁) where
      pub lower_room : bottom ≡ true → Roomy (cap_part ps lower) lower.first m.bottom.indices b₁
      unfolding cone_part cap_at
      lower_room = room_there (cap_part ps lower) (roomy_next D Z₁ R W₁)

      pub all_written : {b₂ : Builder} → Written (D m.bottom.vertices m.bottom.pairs) m.bottom.vertices m.bottom.indices b₁ b₂ → Written (cone_part ps r h n side bottom) 0 0 b₀ b₂
      unfolding cone_part
      all_written W = written_followed D Z₁ R W₁ W

-- ---- the call

module _ (radius height : Float) (side bottom : Bool) (slices : ℕ) (ps : List Float) (k : Round) (e : (k.r ≡ dim_of radius one_f) × (k.height ≡ dim_of height two_f) × (k.n ≡ held_to slices 3)) where
  pub call_is : cone_part ps k.r k.height k.n side bottom ≡ cone_of radius height side bottom slices ps
  unfolding cone_of
  call_is = λ t. cone_part ps (e.0 t) (e.1 t) (e.2 t) side bottom

  module _ {z : PartSizes} {o : Option PartSizes} {m : Marks} (em : m ≡ marks_of (unwrap_or o no_sizes) k.n false bottom) (eo : o ≡ then_some side z) (ez : z ≡ cone_side_sizes k.n) where
    pub call_marks : m ≡ marks_of (sizes_where side (cone_side_sizes k.n)) k.n false bottom
    call_marks = marks_there side (cone_side_sizes k.n) k.n false bottom em eo ez

    pub call_sized : Sized (cone_of radius height side bottom slices ps) m.all
    call_sized = sized_as call_is (all_sized ps k.r k.height k.n side bottom k.few call_marks)
