-- Laws of the lists that the code holds: a removal, triangles in threes, a fan, the clip.
use mathlib.Core.Path.{◌≡◌, refl, sym, ap, ◌∙◌, subst}
use mathlib.Core.Bool.{Bool, true, false, ◌&&◌}
use mathlib.Core.List.{List, [], ◌∷◌, map}
use Prim.Native.Nat.{ℕ, zero, suc, ◌+◌, ◌-◌, ◌*◌, ◌≤◌, ◌<◌}
use native.Mathlib.Numerals.{add-one}
use native.Mathlib.Omega.{arith}
use borrow.Author.Tests.{le-ltb, lt-ltb}
use lib.Dec.{ltb}
use lib.ListN.{length, get_or, drop, length-drop}
use lib.Seq.{drop-cons, sets}
use Rattle.lists.specs.Loops.{pick}
use Rattle.lists.proofs.Tests.{and_no}
use Rattle.lists.specs.Lists.{remove}
use Rattle.polygon.specs.Ears.{Pt, Tri, triple, flat, turn, fan, fan_from, clip, goes, first_ear, corner}

-- ---- triangles

module _ (rev : Bool) (out : List ℕ) (t : ℕ) where
  -- one more triangle is written
  pub sets_tri : (q : Tri) (r : List Tri)
      → sets out (t * 3) (flat (map (turn rev) (q ∷ r))) ≡ sets (sets out (t * 3) (flat (turn rev q ∷ []))) ((t + 1) * 3) (flat (map (turn rev) r))
  unfolding flat
  sets_tri q r =
      let e : suc (suc (suc (t * 3))) ≡ (t + 1) * 3 = omega arith in
      ap (λ (k : ℕ). sets (sets out (t * 3) (flat (turn rev q ∷ []))) k (flat (map (turn rev) r))) e

  pub sets_none : sets out (t * 3) (flat (map (turn rev) [])) ≡ out
  unfolding flat
  sets_none = refl

-- ---- a fan

pub fan_start : (l : List ℕ) → fan l ≡ fan_from (get_or l 0 0) (drop 1 l)
unfolding fan fan_from
fan_start [] = refl
fan_start (x ∷ l) = refl

fan_step : (x y z : ℕ) (r m : List ℕ) → m ≡ z ∷ r → fan_from x (y ∷ m) ≡ triple x y z ∷ fan_from x m
unfolding fan_from
fan_step x y z r m e = subst (λ (m : List ℕ). fan_from x (y ∷ m) ≡ triple x y z ∷ fan_from x m) (sym e) refl

pub fan_go : (x : ℕ) (l : List ℕ) (k : ℕ) → k + 1 < length l → fan_from x (drop k l) ≡ triple x (get_or l k 0) (get_or l (k + 1) 0) ∷ fan_from x (drop (k + 1) l)
fan_go x l k h =
    ap (λ (m : List ℕ). fan_from x m) (drop-cons l k 0 (omega arith))
    ∙ fan_step x (get_or l k 0) (get_or l (suc k) 0) (drop (suc (suc k)) l) (drop (suc k) l) (drop-cons l (suc k) 0 (omega arith))
    ∙ ap {B = List Tri} (λ (j : ℕ). triple x (get_or l k 0) (get_or l j 0) ∷ fan_from x (drop j l)) (sym (add-one k))

fan_short : (x : ℕ) (m : List ℕ) → length m ≤ 1 → fan_from x m ≡ []
unfolding fan_from
fan_short x [] h = refl
fan_short x (y ∷ []) h = refl
fan_short x (y ∷ z ∷ r) h = let q : ⊥ = omega arith in absurd q

pub fan_end : (x : ℕ) (l : List ℕ) (k : ℕ) → length l ≤ k + 1 → fan_from x (drop k l) ≡ []
fan_end x l k h = fan_short x (drop k l) (omega (arith, length-drop k l))

-- ---- the clip

module _ (P : ℕ → Pt) where
  pub clip_stop : (k : ℕ) (l : List ℕ) → goes P l ≡ false → clip P k l ≡ fan l
  unfolding clip
  clip_stop zero l e = refl
  clip_stop (suc k) l e = ap (λ (b : Bool). pick b (corner l (first_ear P l) ∷ clip P k (remove (first_ear P l) l)) (fan l)) e

  clip_suc : (k : ℕ) (l : List ℕ) → goes P l ≡ true → clip P (suc k) l ≡ corner l (first_ear P l) ∷ clip P k (remove (first_ear P l) l)
  unfolding clip
  clip_suc k l e = ap (λ (b : Bool). pick b (corner l (first_ear P l) ∷ clip P k (remove (first_ear P l) l)) (fan l)) e

  pub clip_go : (k : ℕ) (l : List ℕ) → 0 < k → goes P l ≡ true → clip P k l ≡ corner l (first_ear P l) ∷ clip P (k - 1) (remove (first_ear P l) l)
  clip_go k l h e =
      let s : k ≡ suc (k - 1) = omega arith in
      ap (λ (j : ℕ). clip P j l) s ∙ clip_suc (k - 1) l e

  pub goes_short : (l : List ℕ) → length l ≤ 3 → goes P l ≡ false
  unfolding goes
  goes_short l h = ap (λ (b : Bool). b && ltb (first_ear P l) (length l)) (le-ltb 3 (length l) h)

  pub goes_none : (l : List ℕ) → length l ≤ first_ear P l → goes P l ≡ false
  unfolding goes
  goes_none l h = ap (λ (b : Bool). ltb 3 (length l) && b) (le-ltb (first_ear P l) (length l) h) ∙ and_no (ltb 3 (length l))

  pub goes_on : (l : List ℕ) → 3 < length l → first_ear P l < length l → goes P l ≡ true
  unfolding goes
  goes_on l h i =
      ap (λ (b : Bool). b && ltb (first_ear P l) (length l)) (lt-ltb 3 (length l) h) ∙ lt-ltb (first_ear P l) (length l) i

-- one turn of the loop that writes a fan
pub fan_write : (rev : Bool) (out : List ℕ) (t : ℕ) (l : List ℕ) (i : ℕ) → i < length l - 2
    → sets (sets out (t * 3) (flat (turn rev (triple (get_or l 0 0) (get_or l (i + 1) 0) (get_or l (i + 2) 0)) ∷ []))) ((t + 1) * 3) (flat (map (turn rev) (fan_from (get_or l 0 0) (drop (i + 1 + 1) l))))
    ≡ sets out (t * 3) (flat (map (turn rev) (fan_from (get_or l 0 0) (drop (i + 1) l))))
fan_write rev out t l i h =
    let e : i + 1 + 1 ≡ i + 2 = omega arith in
    sym (sets_tri rev out t (triple (get_or l 0 0) (get_or l (i + 1) 0) (get_or l (i + 2) 0)) (fan_from (get_or l 0 0) (drop (i + 1 + 1) l))
    ) ∙ ap (λ (q : List Tri). sets out (t * 3) (flat (map (turn rev) q)))
    (sym (fan_go (get_or l 0 0) l (i + 1) (omega arith) ∙ ap (λ (k : ℕ). triple (get_or l 0 0) (get_or l (i + 1) 0) (get_or l k 0) ∷ fan_from (get_or l 0 0) (drop (i + 1 + 1) l)) e))

pub fan_written : (rev : Bool) (out : List ℕ) (t : ℕ) (l : List ℕ) (i : ℕ) → length l - 2 ≤ i
    → sets out (t * 3) (flat (map (turn rev) (fan_from (get_or l 0 0) (drop (i + 1) l)))) ≡ out
fan_written rev out t l i h =
    ap (λ (q : List Tri). sets out (t * 3) (flat (map (turn rev) q))) (fan_end (get_or l 0 0) l (i + 1) (omega arith)) ∙ sets_none rev out t

-- ---- the loop that clips, of N turns: l is the order of the corners that are left; O is what is written so far, T triangles of it

module _ (P : ℕ → Pt) (rev : Bool) (O : List ℕ) (T N : ℕ) (l : List ℕ) where
  pub clip_write : (i : ℕ) (l' O' : List ℕ) → 3 < length l → i < length l → T < N → i ≡ first_ear P l → l' ≡ remove i l
      → O' ≡ sets O (T * 3) (flat (turn rev (corner l i) ∷ []))
      → sets O' ((T + 1) * 3) (flat (map (turn rev) (clip P (N - (T + 1)) l'))) ≡ sets O (T * 3) (flat (map (turn rev) (clip P (N - T) l)))
  clip_write i l' O' h3 hi hk f e w =
      let on : goes P l ≡ true = goes_on P l (omega arith) (omega arith) in
      let k : N - T - 1 ≡ N - (T + 1) = omega arith in
      let c : clip P (N - T) l ≡ corner l i ∷ clip P (N - (T + 1)) (remove i l) =
      clip_go P (N - T) l (omega arith) on
      ∙ ap (λ (j : ℕ). corner l j ∷ clip P (N - T - 1) (remove j l)) (sym f)
      ∙ ap (λ (j : ℕ). corner l i ∷ clip P j (remove i l)) k in
      ap (λ (o : List ℕ). sets o ((T + 1) * 3) (flat (map (turn rev) (clip P (N - (T + 1)) l')))) w
      ∙ ap (λ (r : List ℕ). sets (sets O (T * 3) (flat (turn rev (corner l i) ∷ []))) ((T + 1) * 3) (flat (map (turn rev) (clip P (N - (T + 1)) r)))) e
      ∙ sym (sets_tri rev O T (corner l i) (clip P (N - (T + 1)) (remove i l)))
      ∙ ap (λ (q : List Tri). sets O (T * 3) (flat (map (turn rev) q))) (sym c)

-- the two ways out of the loop
module _ (P : ℕ → Pt) (K : ℕ) (l : List ℕ) where
  pub clip_short : length l ≤ 3 → clip P K l ≡ fan l
  clip_short h = clip_stop P K l (goes_short P l h)

  pub clip_none : (i : ℕ) → i ≡ first_ear P l → length l ≤ i → clip P K l ≡ fan l
  clip_none i f h = clip_stop P K l (goes_none P l (omega arith))
