-- The side of a cylinder, and then its caps: what is written, how large it is, and the call.
use mathlib.Core.Path.{◌≡◌, refl}
use mathlib.Core.Bool.{Bool, true, false}
use mathlib.Core.List.{List}
use Prim.Native.Nat.{ℕ, ◌+◌, ◌*◌, ◌≤◌}
use native.Mathlib.Omega.{arith}
use lib.ListN.{length}
use lib.Ieee.{Float, binary32, neg, div}
use Rattle.math.specs.Vector.{one_f, two_f}
use Rattle.std.specs.Prelude.{Option, unwrap_or}
use Rattle.std.specs.Bool.{then_some}
use Rattle.lists.proofs.Pieces.{length_pieces}
use Rattle.parts.specs.declared.cap.Cap.{Cap}
use Rattle.parts.specs.declared.sizes.PartSizes.{PartSizes}
use Rattle.parts.specs.declared.marks.Marks.{Marks}
use Rattle.parts.specs.declared.round.Round.{Round}
use Rattle.parts.specs.declared.builder.Builder.{Builder}
use Rattle.parts.specs.Sizes.{dim_of, held_to, sum_of, no_sizes, sizes_where, Small, piece_most}
use Rattle.parts.specs.Round.{half, marks_of}
use Rattle.parts.specs.Part.{Part, followed}
use Rattle.parts.specs.Cap.{cap_at, cap_part, cap_sizes, Numbered}
use Rattle.parts.specs.Written.{Sized, Written, Roomy}
use Rattle.parts.proofs.Capping.{cap_sized}
use Rattle.parts.proofs.Parting.{where_sized, room_there, where_small, cap_small, sum_small, sized_followed, roomy_first, roomy_next, written_followed, marks_there, sized_as}
use Rattle.cylinder.specs.Cylinder.{side_verts, side_tris, side_part, side_at, side_sizes, cylinder_part, cylinder_of}

-- ---- the side

module _ (ps : List Float) (r h : Float) (n : ℕ) where
  verts_length : length (side_part ps r h n).verts ≡ (n + 1) * 2
  unfolding side_part side_verts
  verts_length = length_pieces (side_verts ps r h n) 2 (λ t. refl) (n + 1)

  tris_length : length (side_part ps r h n).indices ≡ n * 6
  unfolding side_part side_tris
  tris_length = length_pieces side_tris 6 (λ t. refl) n

  pub side_sized : Sized (side_part ps r h n) (side_sizes n)
  unfolding side_sizes side_part
  side_sized = record { vertices = omega (arith, verts_length); indices = omega (arith, tris_length); pairs = refl }

-- ---- sizes that fit

pub side_small : (n : ℕ) → n ≤ 1024 → Small piece_most (side_sizes n)
unfolding side_sizes
side_small n h = record { vertices = omega arith; indices = omega arith; pairs = omega arith }

-- ---- the side and the caps

module _ (ps : List Float) (r h : Float) (n : ℕ) where
  abbrev S : Bool → Part
  S side = side_at ps side r h n

  abbrev U : Bool → ℕ → ℕ → Part
  U top = cap_at ps top h r n true

  abbrev D : Bool → ℕ → ℕ → Part
  D bottom = cap_at ps bottom (neg h) r n false

  abbrev cap_of : Float → Bool → PartSizes → Cap
  cap_of y up z = record { y = y; r = r; slices = n; top = up; first = z.vertices; pair = z.pairs }

  abbrev a : Bool → PartSizes
  a side = sizes_where side (side_sizes n)

  abbrev b : Bool → Bool → PartSizes
  b side top = sum_of (a side) (sizes_where top (cap_sizes n))

  -- the side and the top
  module _ (side top : Bool) {z : PartSizes} (low : n ≤ 1024) (ez : z ≡ a side) where
    Z₁ : Sized (S side) z
    unfolding side_at
    Z₁ = rw ez (where_sized (side_part ps r h n) side (side_sized ps r h n))

    small_a : Small piece_most z
    small_a = rw ez (where_small piece_most side (side_sizes n) (side_small n low))

    pub upper_numbered : Numbered (cap_of h true z)
    upper_numbered = record { few = low; first_low = omega (arith, small_a.vertices); pair_low = omega (arith, small_a.pairs) }

  -- and the bottom
  module _ (side top bottom : Bool) {m : Marks} (low : n ≤ 1024) (em : m ≡ marks_of (a side) n top bottom) where
    pub top_is : m.top ≡ a side
    unfolding marks_of
    top_is = λ t. (em t).top

    bottom_is : m.bottom ≡ b side top
    unfolding marks_of
    bottom_is = λ t. (em t).bottom

    all_is : m.all ≡ sum_of (b side top) (sizes_where bottom (cap_sizes n))
    unfolding marks_of
    all_is = λ t. (em t).all

    Z₂ : Sized (followed (S side) (U top)) m.bottom
    Z₂ = rw bottom_is (sized_followed (U top) (Z₁ side top {z = a side} low refl) (cap_sized ps top (cap_of h true (a side))))

    pub all_sized : Sized (cylinder_part ps r h n side top bottom) m.all
    unfolding cylinder_part
    all_sized = rw all_is (sized_followed (D bottom) (rw bottom_is at Z₂) (cap_sized ps bottom (cap_of (neg h) false (b side top))))

    small_b : Small (piece_most + piece_most) m.bottom
    small_b = rw bottom_is (sum_small piece_most piece_most (a side) (sizes_where top (cap_sizes n)) (small_a side top {z = a side} low refl) (where_small piece_most top (cap_sizes n) (cap_small n low)))

    pub lower_low : Numbered (cap_of (neg h) false m.bottom)
    lower_low = record { few = low; first_low = omega (arith, small_b.vertices); pair_low = omega (arith, small_b.pairs) }

    abbrev upper : Cap
    upper = cap_of h true m.top

    abbrev lower : Cap
    lower = cap_of (neg h) false m.bottom

    Z₀ : Sized (S side) m.top
    Z₀ = Z₁ side top low top_is

    pub upper_low : Numbered upper
    upper_low = upper_numbered side top low top_is

    -- each is written where it is there
    module _ {b₀ : Builder} (R : Roomy (cylinder_part ps r h n side top bottom) 0 0 b₀) where
      R₂ : Roomy (followed (S side) (U top)) 0 0 b₀
      unfolding cylinder_part
      R₂ = roomy_first (D bottom) Z₂ R

      pub side_room : side ≡ true → Roomy (side_part ps r h n) 0 0 b₀
      unfolding side_at
      side_room = room_there (side_part ps r h n) (roomy_first (U top) Z₀ R₂)

      module _ {b₁ : Builder} (W₁ : Written (S side) 0 0 b₀ b₁) where
        pub upper_room : top ≡ true → Roomy (cap_part ps upper) upper.first m.top.indices b₁
        unfolding cap_at
        upper_room = room_there (cap_part ps upper) (roomy_next (U top) Z₀ R₂ W₁)

        module _ {b₂ : Builder} (W₂ : Written (U top m.top.vertices m.top.pairs) m.top.vertices m.top.indices b₁ b₂) where
          W₃ : Written (followed (S side) (U top)) 0 0 b₀ b₂
          W₃ = written_followed (U top) Z₀ R₂ W₁ W₂

          pub lower_room : bottom ≡ true → Roomy (cap_part ps lower) lower.first m.bottom.indices b₂
          unfolding cylinder_part cap_at
          lower_room = room_there (cap_part ps lower) (roomy_next (D bottom) Z₂ R W₃)

          pub all_written : {b₃ : Builder} → Written (D bottom m.bottom.vertices m.bottom.pairs) m.bottom.vertices m.bottom.indices b₂ b₃ → Written (cylinder_part ps r h n side top bottom) 0 0 b₀ b₃
          unfolding cylinder_part
          all_written W = written_followed (D bottom) Z₂ R W₃ W

-- ---- the call

module _ (radius height : Float) (side top bottom : Bool) (slices : ℕ) (ps : List Float) (k : Round) (e : (k.r ≡ dim_of radius one_f) × (k.height ≡ dim_of height two_f) × (k.n ≡ held_to slices 3)) where
  pub call_is : cylinder_part ps k.r (half k) k.n side top bottom ≡ cylinder_of radius height side top bottom slices ps
  unfolding cylinder_of
  call_is = λ t. cylinder_part ps (e.0 t) (div binary32 (e.1 t) two_f) (e.2 t) side top bottom

  module _ {z : PartSizes} {o : Option PartSizes} {m : Marks} (em : m ≡ marks_of (unwrap_or o no_sizes) k.n top bottom) (eo : o ≡ then_some side z) (ez : z ≡ side_sizes k.n) where
    pub call_marks : m ≡ marks_of (sizes_where side (side_sizes k.n)) k.n top bottom
    call_marks = marks_there side (side_sizes k.n) k.n top bottom em eo ez

    pub call_sized : Sized (cylinder_of radius height side top bottom slices ps) m.all
    call_sized = sized_as call_is (all_sized ps k.r (half k) k.n side top bottom k.few call_marks)
