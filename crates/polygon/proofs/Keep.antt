-- Laws of what the fast search keeps (module Memo): what it says is so, stays so when a corner goes, and is enough to tell an ear.
use mathlib.Core.Path.{◌≡◌, refl, sym, ap, ◌∙◌, subst, fun_ext}
use mathlib.Core.Bool.{Bool, true, false, not, ◌&&◌}
use mathlib.Core.List.{List, [], ◌∷◌}
use mathlib.Core.Logic.{⊎_elim}
use Prim.Native.Nat.{ℕ, zero, suc, ◌+◌, ◌*◌, ◌≤◌, ◌<◌}
use native.Mathlib.Nat.{eq-or-lt_of_le}
use native.Mathlib.Numerals.{add-two}
use native.Mathlib.Omega.{arith}
use borrow.Author.Tests.{ltb-true, ltb-false, eqb-true, eqb-false, lt-ltb, le-ltb, eq-eqb, ne_eqb}
use lib.Dec.{ltb, eqb}
use lib.ListN.{length, get_or, set, length-set, get_or-eq_default}
use lib.Seq.{sets, get_or-set_same, get_or-set_other}
use lib.Ieee.{le}
use Rattle.lists.specs.Loops.{pick, any, tab, first}
use Rattle.lists.proofs.Stores.{flag_gone}
use Rattle.lists.specs.Lists.{remove}
use Rattle.lists.proofs.Removal.{any_remove, but}
use Rattle.polygon.specs.Ears.{Pt, +0, cross2, point_in_tri, blocks, is_ear, before, here, after, place, order}
use Rattle.lists.specs.Searches.{Once}
use Rattle.polygon.specs.Memo.{hits, hit, Tells, ear_of, Clear, Stands, Known, word, finding, Sound, entry}
use Rattle.polygon.specs.declared.memo.Finding.{Finding}
use Rattle.polygon.specs.declared.memo.Finding.TheVariants.{Unknown, Bent, Blocked}
use Rattle.lists.proofs.Tests.{both, never, and_yes, and_right, and_no, and_over, and_drop}
use Rattle.lists.proofs.Searches.{first_has, first_find, first_below, Found, any_tab_find, any_tab_has}

-- ---- a corner goes

hits_gone : (left : List ℕ) (x : ℕ) (g : ℕ → Bool) (j : ℕ) → hits left (but x g) j ≡ hits (set left x 0) g j
unfolding hits
hits_gone left x g j =
    sym (and_over (eqb j x) (eqb (get_or left j 0) 1) (g j)) ∙ ap (λ (b : Bool). b && g j) (sym (flag_gone left x j))

-- with the corners of a triangle put out, what is left and lies in it is what blocks it
pub hits_others : (P : ℕ → Pt) (a b c : ℕ) (left : List ℕ) → hits (set (set (set left a 0) b 0) c 0) (λ j. point_in_tri (P j) (P a) (P b) (P c)) ≡ hits left (blocks P a b c)
unfolding blocks
hits_others P a b c left =
    let g = λ (j : ℕ). point_in_tri (P j) (P a) (P b) (P c) in
    fun_ext (λ j. sym (hits_gone (set (set left a 0) b 0) c g j) ∙ sym (hits_gone (set left a 0) b (but c g) j) ∙ sym (hits_gone left a (but b (but c g)) j))

hits_less : (left : List ℕ) (x : ℕ) (g : ℕ → Bool) (j : ℕ) → hits left g j ≡ false → hits (set left x 0) g j ≡ false
unfolding hits
hits_less left x g j e = ap (λ (b : Bool). b && g j) (flag_gone left x j) ∙ and_drop (not (eqb j x)) (eqb (get_or left j 0) 1) (g j) e

pub tells_gone : (left l : List ℕ) (i : ℕ) → Tells left l → Once l → i < length l → Tells (set left (get_or l i 0) 0) (remove i l)
unfolding Tells hit
tells_gone left l i t o h g =
    let x = get_or l i 0 in
    let e : hits left (but x g) ≡ hits (set left x 0) g = fun_ext (hits_gone left x g) in
    let n : length left ≡ length (set left x 0) = sym (length-set left x 0) in
    any_remove g l i o h ∙ t (but x g)
    ∙ ap (λ (f : ℕ → Bool). ltb (first f (length left) 0) (length left)) e
    ∙ ap (λ (k : ℕ). ltb (first (hits (set left x 0) g) k 0) k) n

module _ (P : ℕ → Pt) (left : List ℕ) (x : ℕ) where
  known_gone : (a b c : ℕ) (f : Finding) → Known P left a b c f → Known P (set left x 0) a b c f
  unfolding Known
  known_gone a b c Unknown k = tt
  known_gone a b c Bent k = k
  known_gone a b c (Blocked s) k =
      let e : length (set left x 0) ≡ length left = length-set left x 0 in
      record {
        inside = omega (arith, k.inside);
        round = k.round;
        blocked = k.blocked;
        clear = λ (j : ℕ) (h : j < s). hits_less left x (blocks P a b c) j (k.clear j h);
      }

  pub sound_gone : (memo : List ℕ) → Sound P left memo → Sound P (set left x 0) memo
  unfolding Sound
  sound_gone memo s b = known_gone (get_or memo (b * 3) 0) b (get_or memo (b * 3 + 1) 0) (finding (get_or memo (b * 3 + 2) 0)) (s b)

-- ---- at the start

pub place_in : (rev : Bool) (n j : ℕ) → j < n → place rev n j < n
unfolding place
place_in true n j h = omega arith
place_in false n j h = omega arith

place_place : (rev : Bool) (n j : ℕ) → j < n → place rev n (place rev n j) ≡ j
unfolding place
place_place true n j h = omega arith
place_place false n j h = refl

place_one : (rev : Bool) (n i j : ℕ) → i < n → j < n → place rev n i ≡ place rev n j → i ≡ j
place_one rev n i j h q e = sym (place_place rev n i h) ∙ ap (place rev n) e ∙ place_place rev n j q

pub once_start : (rev : Bool) (n : ℕ) → Once (order rev n)
unfolding order tab
once_start rev n = go n 0 (omega arith)
  where
    apart : (k i : ℕ) → i + suc k ≤ n → Found (eqb (place rev n i)) (place rev n) k (suc i) → ⊥
    apart k i h d =
        let l : suc i ≤ d.at = d.low in
        let u : d.at < suc i + k = d.high in
        let e : i ≡ d.at = place_one rev n i d.at (omega arith) (omega arith) (eqb-true (place rev n i) (place rev n d.at) d.yes) in
        omega arith

    go : (k i : ℕ) → i + k ≤ n → Once (tab (place rev n) k i)
    go zero i h = tt
    go (suc k) i h = (
      never (any (eqb (place rev n i)) (tab (place rev n) k (suc i)))
          (λ (e : any (eqb (place rev n i)) (tab (place rev n) k (suc i)) ≡ true). apart k i h (any_tab_find (eqb (place rev n i)) (place rev n) k (suc i) e)),
      go k (suc i) (omega arith),
    )

pub tells_start : (left : List ℕ) (rev : Bool) (n : ℕ) → length left ≡ n → ((j : ℕ) → j < n → get_or left j 0 ≡ 1) → Tells left (order rev n)
unfolding Tells hit hits order
tells_start left rev n e on g = both (any g (tab (place rev n) n 0)) (ltb (first (hits left g) (length left) 0) (length left)) to back
  where
    is_hit_lem : (j : ℕ) → j < n → g j ≡ true → hits left g j ≡ true
    is_hit_lem j h y = and_yes (eqb (get_or left j 0) 1) (g j) (eq-eqb (get_or left j 0) 1 (on j h)) y

    of_hit : (j : ℕ) → hits left g j ≡ true → g j ≡ true
    of_hit j y = and_right (eqb (get_or left j 0) 1) (g j) y

    to : any g (tab (place rev n) n 0) ≡ true → ltb (first (hits left g) (length left) 0) (length left) ≡ true
    to y =
        let d = any_tab_find g (place rev n) n 0 y in
        let u : d.at < 0 + n = d.high in
        let j = place rev n d.at in
        let w : j < n = place_in rev n d.at (omega arith) in
        let r : first (hits left g) (length left) 0 < 0 + length left = first_has (hits left g) (length left) 0 j (omega arith) (omega arith) (is_hit_lem j w d.yes) in
        lt-ltb (first (hits left g) (length left) 0) (length left) (omega arith)

    back : ltb (first (hits left g) (length left) 0) (length left) ≡ true → any g (tab (place rev n) n 0) ≡ true
    back y =
        let j = first (hits left g) (length left) 0 in
        let w : j < length left = ltb-true j (length left) y in
        let v : j < n = omega arith in
        let q : g j ≡ true = of_hit j (first_find (hits left g) (length left) 0 (omega arith)) in
        let b : place rev n j < n = place_in rev n j v in
        any_tab_has g (place rev n) n 0 (place rev n j) (omega arith) (omega arith) (ap g (place_place rev n j v) ∙ q)

module _ (P : ℕ → Pt) (left : List ℕ) where
  pub sound_start : (memo : List ℕ) → ((j : ℕ) → j < length memo → get_or memo j 0 ≡ 0) → Sound P left memo
  unfolding Sound Known finding
  sound_start memo h b = rw (zero_at (b * 3 + 2)) tt
    where
      by : (j : ℕ) (q : Bool) → ltb j (length memo) ≡ q → get_or memo j 0 ≡ 0
      by j true e = h j (ltb-true j (length memo) e)
      by j false e = get_or-eq_default memo 0 (ltb-false j (length memo) e)

      zero_at : (j : ℕ) → get_or memo j 0 ≡ 0
      zero_at j = by j (ltb j (length memo)) refl

  -- ---- what is found

  hit_blocks : (g : ℕ → Bool) (k : ℕ) → hits left g k ≡ true → g k ≡ true
  unfolding hits
  hit_blocks g k y = and_right (eqb (get_or left k 0) 1) (g k) y

  pub stands_hit : (a b c k : ℕ) → le (cross2 (P a) (P b) (P c)) +0 ≡ false → k ≡ first (hits left (blocks P a b c)) (length left) 0 → k < length left
      → Stands P left a b c k
  stands_hit a b c k y e h =
      let f = hits left (blocks P a b c) in
      let v : first f (length left) 0 < 0 + length left = omega arith in
      record {
        inside = h;
        round = y;
        blocked = hit_blocks (blocks P a b c) k (ap f e ∙ first_find f (length left) 0 v);
        clear = λ (j : ℕ) (q : j < k). first_below f (length left) 0 j (omega arith) (omega arith);
      }

  -- one entry is stored; where there is no room for it, nothing is known
  -- a word says what it was made of
  finding_word : (f : Finding) → finding (word f) ≡ f
  unfolding finding word
  finding_word Unknown = refl
  finding_word Bent = refl
  finding_word (Blocked k) = rw add-two

  pub sound_store : (memo : List ℕ) (a b c : ℕ) (f : Finding) → Sound P left memo → Known P left a b c f → Sound P left (sets memo (b * 3) (a ∷ c ∷ word f ∷ []))
  unfolding Sound Known finding
  sound_store memo a b c f o k q = go (eqb q b) refl
    where
      s : ℕ
      s = word f

      m1 : List ℕ
      m1 = set memo (b * 3) a

      m2 : List ℕ
      m2 = set m1 (suc (b * 3)) c

      m3 : List ℕ
      m3 = set m2 (suc (suc (b * 3))) s

      kept : (j : ℕ) → (j ≡ b * 3 → ⊥) → (j ≡ suc (b * 3) → ⊥) → (j ≡ suc (suc (b * 3)) → ⊥) → get_or m3 j 0 ≡ get_or memo j 0
      kept j x y z = get_or-set_other m2 (suc (suc (b * 3))) j s 0 z ∙ get_or-set_other m1 (suc (b * 3)) j c 0 y ∙ get_or-set_other memo (b * 3) j a 0 x

      at_b : (t : Bool) → ltb (suc (suc (b * 3))) (length memo) ≡ t → Known P left (get_or m3 (b * 3) 0) b (get_or m3 (b * 3 + 1) 0) (finding (get_or m3 (b * 3 + 2) 0))
      at_b true e =
          let h : suc (suc (b * 3)) < length memo = ltb-true (suc (suc (b * 3))) (length memo) e in
          let n1 : length m1 ≡ length memo = length-set memo (b * 3) a in
          let n2 : length m2 ≡ length m1 = length-set m1 (suc (b * 3)) c in
          let i1 : b * 3 + 1 ≡ suc (b * 3) = omega arith in
          let i2 : b * 3 + 2 ≡ suc (suc (b * 3)) = omega arith in
          let ea : get_or m3 (b * 3) 0 ≡ a =
          get_or-set_other m2 (suc (suc (b * 3))) (b * 3) s 0 (λ (z : b * 3 ≡ suc (suc (b * 3))). omega arith)
          ∙ get_or-set_other m1 (suc (b * 3)) (b * 3) c 0 (λ (z : b * 3 ≡ suc (b * 3)). omega arith)
          ∙ get_or-set_same memo (b * 3) a 0 (omega arith) in
          let ec : get_or m3 (b * 3 + 1) 0 ≡ c =
          ap (λ (j : ℕ). get_or m3 j 0) i1
          ∙ get_or-set_other m2 (suc (suc (b * 3))) (suc (b * 3)) s 0 (λ (z : suc (b * 3) ≡ suc (suc (b * 3))). omega arith)
          ∙ get_or-set_same m1 (suc (b * 3)) c 0 (omega arith) in
          let es : get_or m3 (b * 3 + 2) 0 ≡ s = ap (λ (j : ℕ). get_or m3 j 0) i2 ∙ get_or-set_same m2 (suc (suc (b * 3))) s 0 (omega arith) in
          rw (ea, ec, es, finding_word f) k
      at_b false e =
          let h : length memo ≤ suc (suc (b * 3)) = ltb-false (suc (suc (b * 3))) (length memo) e in
          let n1 : length m1 ≡ length memo = length-set memo (b * 3) a in
          let n2 : length m2 ≡ length m1 = length-set m1 (suc (b * 3)) c in
          let n3 : length m3 ≡ length m2 = length-set m2 (suc (suc (b * 3))) s in
          let u : length m3 ≤ b * 3 + 2 = omega arith in
          let es : get_or m3 (b * 3 + 2) 0 ≡ 0 = get_or-eq_default m3 0 u in
          rw es tt

      go : (t : Bool) → eqb q b ≡ t → Known P left (get_or m3 (q * 3) 0) q (get_or m3 (q * 3 + 1) 0) (finding (get_or m3 (q * 3 + 2) 0))
      go true e =
          subst (λ (r : ℕ). Known P left (get_or m3 (r * 3) 0) r (get_or m3 (r * 3 + 1) 0) (finding (get_or m3 (r * 3 + 2) 0))) (sym (eqb-true q b e))
          (at_b (ltb (suc (suc (b * 3))) (length memo)) refl)
      go false e =
          let n : q ≡ b → ⊥ = eqb-false q b e in
          let r0 : get_or m3 (q * 3) 0 ≡ get_or memo (q * 3) 0 =
          kept (q * 3) (λ (z : q * 3 ≡ b * 3). n (omega arith)) (λ (z : q * 3 ≡ suc (b * 3)). omega arith) (λ (z : q * 3 ≡ suc (suc (b * 3))). omega arith) in
          let r1 : get_or m3 (q * 3 + 1) 0 ≡ get_or memo (q * 3 + 1) 0 =
          kept (q * 3 + 1) (λ (z : q * 3 + 1 ≡ b * 3). omega arith) (λ (z : q * 3 + 1 ≡ suc (b * 3)). n (omega arith)) (λ (z : q * 3 + 1 ≡ suc (suc (b * 3))). omega arith) in
          let r2 : get_or m3 (q * 3 + 2) 0 ≡ get_or memo (q * 3 + 2) 0 =
          kept (q * 3 + 2) (λ (z : q * 3 + 2 ≡ b * 3). omega arith) (λ (z : q * 3 + 2 ≡ suc (b * 3)). omega arith) (λ (z : q * 3 + 2 ≡ suc (suc (b * 3))). n (omega arith)) in
          rw (r0, r1, r2) (o q)

  -- what is kept of b between a and c is so
  pub known_read : (memo : List ℕ) (a b c : ℕ) (f : Finding) → f ≡ entry memo a b c → Sound P left memo → Known P left a b c f
  unfolding Sound entry Known
  known_read memo a b c f e o = rw e (go (eqb (get_or memo (b * 3) 0) a) refl (eqb (get_or memo (b * 3 + 1) 0) c) refl)
    where
      go : (t : Bool) → eqb (get_or memo (b * 3) 0) a ≡ t → (u : Bool) → eqb (get_or memo (b * 3 + 1) 0) c ≡ u → Known P left a b c (pick (t && u) (finding (get_or memo (b * 3 + 2) 0)) Unknown)
      go true e true f =
          let ea : get_or memo (b * 3) 0 ≡ a = eqb-true (get_or memo (b * 3) 0) a e in
          let ec : get_or memo (b * 3 + 1) 0 ≡ c = eqb-true (get_or memo (b * 3 + 1) 0) c f in
          rw (ea, ec) at (o b)
      go true e false f = tt
      go false e u f = tt

  -- ---- the answers

  pub ear_bent : (a b c : ℕ) → le (cross2 (P a) (P b) (P c)) +0 ≡ true → false ≡ ear_of P left a b c
  unfolding ear_of
  ear_bent a b c e = rw e

  -- a corner that is left lies in it
  pub ear_blocked : (a b c k : ℕ) → Stands P left a b c k → get_or left k 0 ≡ 1 → false ≡ ear_of P left a b c
  unfolding ear_of hit hits
  ear_blocked a b c k s e =
      let f = hits left (blocks P a b c) in
      let u : k < length left = s.inside in
      let y : f k ≡ true = and_yes (eqb (get_or left k 0) 1) (blocks P a b c k) (eq-eqb (get_or left k 0) 1 e) s.blocked in
      let w : first f (length left) 0 < 0 + length left = first_has f (length left) 0 k (omega arith) (omega arith) y in
      let z : ltb (first f (length left) 0) (length left) ≡ true = lt-ltb (first f (length left) 0) (length left) (omega arith) in
      sym (ap (λ (t : Bool). not (le (cross2 (P a) (P b) (P c)) +0) && not t) z ∙ and_no (not (le (cross2 (P a) (P b) (P c)) +0)))

  -- the search goes on where it stopped
  pub go_on : (a b c k : ℕ) → Stands P left a b c k → (get_or left k 0 ≡ 1 → ⊥) → Clear P left a b c (k + 1)
  unfolding hits
  go_on a b c k s g j q = ⊎_elim last (s.clear j) (eq-or-lt_of_le v)
    where
      v : j ≤ k
      v = omega arith

      last : j ≡ k → (eqb (get_or left j 0) 1 && blocks P a b c j) ≡ false
      last e = ap (λ (t : Bool). t && blocks P a b c j) (ne_eqb (get_or left j 0) 1 (λ (z : get_or left j 0 ≡ 1). g (ap (λ (i : ℕ). get_or left i 0) (sym e) ∙ z)))

  -- the search found k
  pub ear_found : (a b c k : ℕ) → le (cross2 (P a) (P b) (P c)) +0 ≡ false → k ≡ first (hits left (blocks P a b c)) (length left) 0 → k < length left → false ≡ ear_of P left a b c
  unfolding ear_of hit
  ear_found a b c k y e h = let z : ltb (first (hits left (blocks P a b c)) (length left) 0) (length left) ≡ true = lt-ltb (first (hits left (blocks P a b c)) (length left) 0) (length left) (omega arith) in rw (y, z)

  -- the search found none
  pub ear_free : (a b c k : ℕ) → le (cross2 (P a) (P b) (P c)) +0 ≡ false → k ≡ first (hits left (blocks P a b c)) (length left) 0 → length left ≤ k → true ≡ ear_of P left a b c
  unfolding ear_of hit
  ear_free a b c k y e h = let z : ltb (first (hits left (blocks P a b c)) (length left) 0) (length left) ≡ false = le-ltb (first (hits left (blocks P a b c)) (length left) 0) (length left) (omega arith) in rw (y, z)

  -- the flags tell an ear of the order
  pub ear_is : (l : List ℕ) (i : ℕ) → Tells left l → ear_of P left (before l i) (here l i) (after l i) ≡ is_ear P l i
  unfolding ear_of is_ear Tells
  ear_is l i t =
      ap (λ (b : Bool). not (le (cross2 (P (before l i)) (P (here l i)) (P (after l i))) +0) && not b) (sym (t (blocks P (before l i) (here l i) (after l i))))

-- ---- the code's own arithmetic
