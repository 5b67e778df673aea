-- Two keys that compare as the same are the same.
use mathlib.Core.Path.{◌≡◌, ap}
use mathlib.Core.Bool.{Bool, ◌&&◌}
use mathlib.Core.List.{List}
use Prim.Native.Nat.{ℕ}
use lib.Dec.{T, eqb, eqb→eq, eqb_refl}
use lib.Ieee.Fits.{and_i, and_l, and_r}
use lib.ListN.{get_or}
use Rattle.bits.specs.declared.Words2.{Words2}
use Rattle.bits.specs.declared.Words3.{Words3}
use Rattle.bits.specs.declared.Words4.{Words4}
use Rattle.lists.specs.Lists.{same_words}
use Rattle.mesh.specs.Words.{words2, words3, words4}
use Rattle.mesh.specs.Vertices.{Key, same_key}
use Rattle.lists.proofs.Lists.{same_words_sound, same_words_self}

-- the words say which record it is
at_word : (i : ℕ) {a b : List ℕ} → a ≡ b → get_or a i 0 ≡ get_or b i 0
at_word i e = ap (λ (l : List ℕ). get_or l i 0) e

pub same2 : (a b : Words2) → T (same_words (words2 a) (words2 b)) → a ≡ b
same2 a b t = let e = same_words_sound (words2 a) (words2 b) t in λ i. record { s = at_word 0 e i; t = at_word 1 e i }

pub same3 : (a b : Words3) → T (same_words (words3 a) (words3 b)) → a ≡ b
same3 a b t = let e = same_words_sound (words3 a) (words3 b) t in λ i. record { x = at_word 0 e i; y = at_word 1 e i; z = at_word 2 e i }

pub same4 : (a b : Words4) → T (same_words (words4 a) (words4 b)) → a ≡ b
same4 a b t =
    let e = same_words_sound (words4 a) (words4 b) t in
    λ i. record { r = at_word 0 e i; g = at_word 1 e i; b = at_word 2 e i; a = at_word 3 e i }

pub same_key_sound : (x y : Key) → T (same_key x y) → x ≡ y
unfolding same_key
same_key_sound x y t =
    let p : Bool = eqb x.point y.point in
    let n : Bool = same_words (words3 x.normal) (words3 y.normal) in
    let c : Bool = same_words (words4 x.colour) (words4 y.colour) in
    let e : Bool = same_words (words2 x.texture) (words2 y.texture) in
    let t1 : T (n && (c && e)) = and_r p (n && (c && e)) t in
    let t2 : T (c && e) = and_r n (c && e) t1 in
    λ i. record {
      point = eqb→eq x.point y.point (and_l p (n && (c && e)) t) i;
      normal = same3 x.normal y.normal (and_l n (c && e) t1) i;
      colour = same4 x.colour y.colour (and_l c e t2) i;
      texture = same2 x.texture y.texture (and_r c e t2) i;
    }

pub same_key_self : (x : Key) → T (same_key x x)
unfolding same_key
same_key_self x =
    let n : Bool = same_words (words3 x.normal) (words3 x.normal) in
    let c : Bool = same_words (words4 x.colour) (words4 x.colour) in
    let e : Bool = same_words (words2 x.texture) (words2 x.texture) in
    and_i (eqb x.point x.point) (n && (c && e)) (eqb_refl x.point)
    (and_i n (c && e) (same_words_self (words3 x.normal)) (and_i c e (same_words_self (words4 x.colour)) (same_words_self (words2 x.texture))))
