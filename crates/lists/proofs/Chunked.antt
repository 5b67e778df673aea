-- A list walked w elements at a time, as `chunks_exact` gives them.
use mathlib.Core.Path.{◌≡◌, refl, sym, ap, ◌∙◌}
use mathlib.Core.List.{List, [], ◌∷◌}
use Prim.Native.Nat.{ℕ, ◌+◌, ◌*◌, ◌/◌, ◌<◌}
use native.Mathlib.Nat.{add_comm, zero-mul, add-mul-div_right}
use native.Mathlib.Omega.{arith}
use lib.ListN.{length, get_or, drop, length-append, get_or-append}
use lib.Seq.{get_or-drop, drop-drop, drop_at}
use Rattle.lists.proofs.Numbers.{next_row, row_of}
use Rattle.lists.proofs.Putting.{Split}

-- of l, n chunks were met, and `rest` is left
pub record Chunked {A : Type 0} (w : ℕ) (l : List A) (n : ℕ) (rest : List A) : Type 0 where
  pub left : rest ≡ drop (n * w) l
  pub counted : n * w + length rest ≡ length l

module _ {A : Type 0} {w : ℕ} {l : List A} where
  pub chunked_none : Chunked w l 0 l
  chunked_none = record { left = sym (ap (λ (k : ℕ). drop k l) (zero-mul w)); counted = omega (arith, zero-mul w) }

  pub chunked_all : {n : ℕ} {rest : List A} → Chunked w l n rest → length rest < w → n ≡ length l / w
  chunked_all {n} {rest} C b = sym (row_of w (length rest) n b) ∙ ap (λ (k : ℕ). k / w) (add_comm (length rest) (n * w) ∙ C.counted)

  -- the next
  module _ (p : List A) {n : ℕ} {rest after : List A} (C : Chunked w l n rest) (S : Split rest p after) (m : length p ≡ w) where
    counted_more : (n + 1) * w + length after ≡ length l
    counted_more = omega (arith, next_row n w, C.counted, ap length S.is, length-append p after, m)

    pub chunked_here : 0 < w → n < length l / w
    chunked_here h =
        let e : (length after + (n + 1) * w) / w ≡ length after / w + (n + 1) = add-mul-div_right (length after) (n + 1) h in
        let q : (length after + (n + 1) * w) / w ≡ length l / w = ap (λ (k : ℕ). k / w) (add_comm (length after) ((n + 1) * w) ∙ counted_more) in
        omega arith

    pub chunked_at : (d : A) (k i : ℕ) → k < w → n * w + k ≡ i → get_or p k d ≡ get_or l i d
    chunked_at d k i h e =
        sym (get_or-append p after d k (omega arith)) ∙ ap (λ (x : List A). get_or x k d) (sym S.is ∙ C.left) ∙ get_or-drop (n * w) l k d
        ∙ ap (λ (j : ℕ). get_or l j d) e

    pub chunked_more : Chunked w l (n + 1) after
    chunked_more = record {
      left = sym (ap (λ (k : ℕ). drop k l) (next_row n w) ∙ sym (drop-drop w (n * w) l) ∙ ap (drop w) (sym C.left ∙ S.is) ∙ drop_at p after w m);
      counted = counted_more;
    }

-- one element at a time: n were met, and `left` are left
module _ {A : Type 0} {l : List A} {n : ℕ} {left : List A} (C : Chunked 1 l n left) where
  module _ {after : List A} {x : A} (e : left ≡ x ∷ after) where
    pub each_more : Chunked 1 l (n + 1) after
    each_more = chunked_more (x ∷ []) C (record { is = e }) refl

    pub each_here : (n < length l) × ((d : A) → x ≡ get_or l n d)
    each_here =
        let h = chunked_here (x ∷ []) C (record { is = e }) refl (omega arith) in
        (omega arith, λ d. chunked_at (x ∷ []) C (record { is = e }) refl d 0 n (omega arith) (omega arith))

  pub each_all : left ≡ [] → n ≡ length l
  each_all e = omega (arith, C.counted, ap length e)
