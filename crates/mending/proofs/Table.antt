-- The table of first usable triangles: one turn, start and end of the pass over the triangles.
use mathlib.Core.Path.{◌≡◌, refl, sym, ap, ◌∙◌, subst}
use mathlib.Core.Bool.{Bool, true, false, ◌||◌, cond, true≢false}
use mathlib.Core.List.{List, [], ◌∷◌}
use Prim.Native.Nat.{ℕ, ◌+◌, ◌*◌, ◌/◌, ◌≤◌, ◌<◌}
use native.Mathlib.Omega.{arith}
use lib.Dec.{eqb}
use borrow.Author.Tests.{eqb-true, eqb-false}
use lib.ListN.{length, get_or, drop, set, replicate, length-set, length-drop, length-replicate, get_or-replicate}
use lib.Seq.{get_or-set_same, get_or-set_other}
use Rattle.math.specs.declared.vector.V3.{V3}
use Rattle.std.specs.Prelude.{Option, is_some}
use Rattle.std.specs.Prelude.{Some, None}
use Rattle.math.specs.Vector.{y_axis}
use Rattle.mesh.specs.Soup.{Frame}
use Rattle.mesh.specs.Normals.{or_else}
use Rattle.mesh.specs.Vertices.{Key}
use Rattle.mesh.specs.Mend.{first_normal}
use Rattle.lists.proofs.Lists.{drop_three}
use Rattle.lists.proofs.Tests.{cond_same}
use Rattle.lists.specs.Named.{named_by}
use Rattle.lists.proofs.Named.{named_next}
use Rattle.mending.specs.Mend.{triangle_normal, found, marked_by, marked, marked_all, noted_by, noted, Firsts}

-- ---- one word of the table

-- a word is noted, or one stands there
module _ (t : List ℕ) (v n : ℕ) (w : Option ℕ) (e : w ≡ named_by (get_or t v 0)) where
  pub mark_first : is_some w ≡ false → set t v (n + 1) ≡ marked t v n
  unfolding marked
  mark_first h = rw (← e) (go w h)
    where
      go : (w : Option ℕ) → is_some w ≡ false → set t v (n + 1) ≡ marked_by w t v n
      go None q = refl
      go (Some m) q = absurd (true≢false q)

  pub mark_again : is_some w ≡ true → t ≡ marked t v n
  unfolding marked
  mark_again h = rw (← e) (go w h)
    where
      go : (w : Option ℕ) → is_some w ≡ true → t ≡ marked_by w t v n
      go None q = absurd (true≢false (sym q))
      go (Some m) q = refl

-- ---- a triangle that is met, once it is known whether it has a normal

module _ (F : Frame) (vs : List Key) (is t : List ℕ) (n : ℕ) (r : Option V3) (e : r ≡ triangle_normal F vs is n) where
  pub noted_some : is_some r ≡ true → marked_all is t n ≡ noted F vs is t n
  unfolding noted
  noted_some h = rw (← e) (go r h)
    where
      go : (r : Option V3) → is_some r ≡ true → marked_all is t n ≡ noted_by r is t n
      go (Some u) q = refl
      go None q = absurd (true≢false (sym q))

  pub noted_none : is_some r ≡ false → t ≡ noted F vs is t n
  unfolding noted
  noted_none h = rw (← e) (go r h)
    where
      go : (r : Option V3) → is_some r ≡ false → t ≡ noted_by r is t n
      go (Some u) q = absurd (true≢false q)
      go None q = refl

-- ---- a mark, read again

-- a triangle that is named, or a new one where there is none
abbrev or_new : Option ℕ → ℕ → Option ℕ
or_new None n = Some n
or_new (Some m) n = Some m

module _ (t : List ℕ) (v n : ℕ) (b : v < length t) where
  marked_same : named_by (get_or (marked t v n) v 0) ≡ or_new (named_by (get_or t v 0)) n
  unfolding marked
  marked_same = go (named_by (get_or t v 0)) refl
    where
      go : (w : Option ℕ) → named_by (get_or t v 0) ≡ w → named_by (get_or (marked_by w t v n) v 0) ≡ or_new w n
      go None e = ap named_by (get_or-set_same t v (n + 1) 0 b) ∙ named_next n
      go (Some m) e = e

  marked_other : (a : ℕ) → (a ≡ v → ⊥) → get_or (marked t a n) v 0 ≡ get_or t v 0
  unfolding marked
  marked_other a h = go (named_by (get_or t a 0))
    where
      go : (w : Option ℕ) → get_or (marked_by w t a n) v 0 ≡ get_or t v 0
      go None = get_or-set_other t a v (n + 1) 0 (λ e. h (sym e))
      go (Some m) = refl

  marked_at : (a : ℕ) → named_by (get_or (marked t a n) v 0) ≡ cond (eqb a v) (or_new (named_by (get_or t v 0)) n) (named_by (get_or t v 0))
  marked_at a = go (eqb a v) refl
    where
      go : (c : Bool) → eqb a v ≡ c → named_by (get_or (marked t a n) v 0) ≡ cond c (or_new (named_by (get_or t v 0)) n) (named_by (get_or t v 0))
      go true e = ap (λ (j : ℕ). named_by (get_or (marked t j n) v 0)) (eqb-true a v e) ∙ marked_same
      go false e = ap named_by (marked_other a (eqb-false a v e))

length_marked : (t : List ℕ) (a n : ℕ) → length (marked t a n) ≡ length t
unfolding marked
length_marked t a n = go (named_by (get_or t a 0))
  where
    go : (w : Option ℕ) → length (marked_by w t a n) ≡ length t
    go None = length-set t a (n + 1)
    go (Some m) = refl

-- one mark, where the test is c
abbrev mark : Bool → ℕ → Option ℕ → Option ℕ
mark c n w = cond c (or_new w n) w

again : (y : Bool) (w : Option ℕ) (n : ℕ) → mark y n (or_new w n) ≡ or_new w n
again true None n = refl
again true (Some m) n = refl
again false w n = refl

three : (x y z : Bool) (w : Option ℕ) (n : ℕ) → mark z n (mark y n (mark x n w)) ≡ mark (x || (y || z)) n w
three true y z w n = ap (mark z n) (again y w n) ∙ again z w n
three false true z w n = again z w n
three false false z w n = refl

marked_three : (t : List ℕ) (a b c v n : ℕ) → v < length t
    → named_by (get_or (marked (marked (marked t a n) b n) c n) v 0) ≡ mark (eqb a v || (eqb b v || eqb c v)) n (named_by (get_or t v 0))
marked_three t a b c v n h =
    let t1 = marked t a n in
    let t2 = marked t1 b n in
    let h1 : v < length t1 = subst (λ (k : ℕ). v < k) (sym (length_marked t a n)) h in
    let h2 : v < length t2 = subst (λ (k : ℕ). v < k) (sym (length_marked t1 b n)) h1 in
    marked_at t2 v n h2 c
    ∙ ap (mark (eqb c v) n) (marked_at t1 v n h1 b ∙ ap (mark (eqb b v) n) (marked_at t v n h a))
    ∙ three (eqb a v) (eqb b v) (eqb c v) (named_by (get_or t v 0)) n

-- ---- the pass over the triangles

module _ (F : Frame) (vs : List Key) (is : List ℕ) where
  -- whether triangle n uses vertex v
  abbrev uses : ℕ → ℕ → Bool
  uses n v = eqb (get_or is (n * 3 + 0) 0) v || (eqb (get_or is (n * 3 + 1) 0) v || eqb (get_or is (n * 3 + 2) 0) v)

  found_new : (x : Bool) (w : Option ℕ) (n : ℕ) (u rest : V3) → triangle_normal F vs is n ≡ Some u
      → found F vs is (mark x n w) rest ≡ found F vs is w (cond x u rest)
  unfolding or_else
  found_new true None n u rest e = ap (λ (w : (Option V3)). or_else w y_axis) e
  found_new true (Some m) n u rest e = refl
  found_new false w n u rest e = refl

  noted_found : (t : List ℕ) (n v : ℕ) (rest : V3) → v < length t
      → found F vs is (named_by (get_or (noted F vs is t n) v 0)) rest
      ≡ found F vs is (named_by (get_or t v 0)) (cond (uses n v) (or_else (triangle_normal F vs is n) rest) rest)
  unfolding noted marked_all or_else
  noted_found t n v rest h = go (triangle_normal F vs is n) refl
    where
      go : (w : (Option V3)) → triangle_normal F vs is n ≡ w
          → found F vs is (named_by (get_or (noted_by w is t n) v 0)) rest ≡ found F vs is (named_by (get_or t v 0)) (cond (uses n v) (or_else w rest) rest)
      go None e = ap (found F vs is (named_by (get_or t v 0))) (sym (cond_same (uses n v) rest))
      go (Some u) e =
          let a = get_or is (n * 3 + 0) 0 in
          let b = get_or is (n * 3 + 1) 0 in
          let c = get_or is (n * 3 + 2) 0 in
          ap (λ (w : Option ℕ). found F vs is w rest) (marked_three t a b c v n h) ∙ found_new (uses n v) (named_by (get_or t v 0)) n u rest e

  first_three : (v n : ℕ) → n * 3 + 2 < length is
      → first_normal F vs v (drop (n * 3) is)
      ≡ cond (uses n v) (or_else (triangle_normal F vs is n) (first_normal F vs v (drop ((n + 1) * 3) is))) (first_normal F vs v (drop ((n + 1) * 3) is))
  unfolding first_normal triangle_normal
  first_three v n h =
      let a : n * 3 ≡ n * 3 + 0 = omega arith in
      let b : n * 3 + 3 ≡ (n + 1) * 3 = omega arith in
      ap (first_normal F vs v) (drop_three 0 is (n * 3) (omega arith) ∙ (λ i. get_or is (a i) 0 ∷ get_or is (n * 3 + 1) 0 ∷ get_or is (n * 3 + 2) 0 ∷ drop (b i) is))

  first_short : (v : ℕ) (l : List ℕ) → length l ≤ 2 → first_normal F vs v l ≡ y_axis
  unfolding first_normal
  first_short v [] h = refl
  first_short v (a ∷ []) h = refl
  first_short v (a ∷ b ∷ []) h = refl
  first_short v (a ∷ b ∷ c ∷ l) h = let z : ⊥ = omega arith in absurd z

  -- the triangles from number n on are left
  unfoldable pub Left : List ℕ → ℕ → Type 0
  Left t n = (v : ℕ) → v < length t → found F vs is (named_by (get_or t v 0)) (first_normal F vs v (drop (n * 3) is)) ≡ first_normal F vs v is

  -- in a table of n zeros no triangle is met
  pub left_start : (t : List ℕ) (n : ℕ) → t ≡ replicate n 0 → Left t 0
  unfolding Left named_by
  left_start t n e v h =
      let b : v < n = subst (λ (k : ℕ). v < k) (ap length e ∙ length-replicate n 0) h in
      let z : get_or t v 0 ≡ 0 = ap (λ (l : List ℕ). get_or l v 0) e ∙ get_or-replicate n v 0 0 b in
      ap (λ (m : ℕ). found F vs is (named_by m) (first_normal F vs v is)) z

  pub left_go : (t t' : List ℕ) (n : ℕ) → n < length is / 3 → length t' ≡ length t → t' ≡ noted F vs is t n → Left t n → Left t' (n + 1)
  unfolding Left
  left_go t t' n h l e L v b =
      let b' : v < length t = omega arith in
      let rest = first_normal F vs v (drop ((n + 1) * 3) is) in
      ap (λ (m : List ℕ). found F vs is (named_by (get_or m v 0)) rest) e
      ∙ noted_found t n v rest b'
      ∙ ap (found F vs is (named_by (get_or t v 0))) (sym (first_three v n (omega arith)))
      ∙ L v b'

  pub left_end : (t : List ℕ) (n : ℕ) → length is / 3 ≤ n → Left t n → Firsts F vs is t
  unfolding Left Firsts
  left_end t n h L v b =
      ap (found F vs is (named_by (get_or t v 0))) (sym (first_short v (drop (n * 3) is) (omega (arith, length-drop (n * 3) is)))) ∙ L v b
