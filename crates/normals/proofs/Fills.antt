-- Floats made from the front: a part put after what is there.
use mathlib.Core.Path.{◌≡◌, refl, sym, ap, ◌∙◌}
use mathlib.Core.List.{List, [], ◌∷◌, ◌++◌}
use Prim.Native.Nat.{ℕ, zero, suc, ◌+◌, ◌*◌, ◌≤◌, ◌<◌}
use native.Mathlib.Omega.{arith}
use lib.ListN.{length, take, drop, length-append, length-drop}
use lib.Seq.{take_at, take-add}
use lib.Ieee.{Float, nan}
use Rattle.math.specs.declared.vector.V3.{V3}
use Rattle.lists.specs.Loops.{tab}
use Rattle.lists.proofs.Tabs.{length_tab, tab_add}
use Rattle.lists.specs.Lists.{flat}
use Rattle.lists.specs.Parts.{spliced}
use Rattle.lists.proofs.Lists.{three_at}
use Rattle.lists.proofs.Splices.{grow}
use Rattle.normals.specs.Rows.{vector}
use Rattle.normals.specs.Written.{three, spread}

pub spread_app : (l m : List V3) → spread (l ++ m) ≡ spread l ++ spread m
unfolding spread flat
spread_app [] m = refl
spread_app (v ∷ l) m = ap (λ (r : List Float). three v ++ r) (spread_app l m)

pub length_spread : (l : List V3) → length (spread l) ≡ 3 * length l
unfolding spread flat
length_spread [] = refl
length_spread (v ∷ l) = omega (arith, length_spread l)

-- the three floats from a
vector_at : (e : List Float) (a : ℕ) → a + 3 ≤ length e → take 3 (drop a e) ≡ three (vector e a)
unfolding vector
vector_at e a h = three_at nan e a h

module _ (f : ℕ → V3) where
  pub length_made : (n a : ℕ) → length (spread (tab f n a)) ≡ 3 * n
  length_made n a = length_spread (tab f n a) ∙ ap (λ (k : ℕ). 3 * k) (length_tab f n a)

  pub spread_none : (d : List Float) (a : ℕ) → d ≡ spread (tab f 0 a) ++ drop (3 * 0) d
  unfolding spread flat tab
  spread_none d a = refl

  -- one vector more
  pub spread_more : (n a : ℕ) → spread (tab f (n + 1) a) ≡ spread (tab f n a) ++ three (f (a + n))
  unfolding spread flat tab
  spread_more n a = ap spread (tab_add f n 1 a) ∙ spread_app (tab f n a) (tab f 1 (a + n))

  pub spread_step : (d e : List Float) (n a : ℕ) (v : V3) → e ≡ spread (tab f n a) ++ drop (3 * n) d → v ≡ f (a + n)
      → spliced e (3 * n) (three v) ≡ spread (tab f (n + 1) a) ++ drop (3 * (n + 1)) d
  spread_step d e n a v q r =
      let k : 3 * n + 3 ≡ 3 * (n + 1) = omega arith in
      let m : spread (tab f (n + 1) a) ≡ spread (tab f n a) ++ three v
      = spread_more n a ∙ ap (λ (x : V3). spread (tab f n a) ++ three x) (sym r) in
      grow (spread (tab f n a)) d e (three v) (3 * n) q (length_made n a)
      ∙ ap (λ (j : ℕ). spread (tab f n a) ++ three v ++ drop j d) k
      ∙ ap (λ (x : List Float). x ++ drop (3 * (n + 1)) d) (sym m)

  pub made_length : (d e : List Float) (n a : ℕ) → e ≡ spread (tab f n a) ++ drop (3 * n) d → 3 * n ≤ length d → length e ≡ length d
  made_length d e n a q h = rw q (length-append (spread (tab f n a)) (drop (3 * n) d) ∙ omega (arith, length_made n a, length-drop (3 * n) d))

  -- the front is made
  pub made_front : (d e : List Float) (n m a : ℕ) → e ≡ spread (tab f n a) ++ drop (3 * n) d → n ≡ m → take (3 * m) e ≡ spread (tab f m a)
  made_front d e n m a q r = ap (take (3 * m)) (q ∙ rw r refl) ∙ take_at (spread (tab f m a)) (drop (3 * m) d) (3 * m) (length_made m a)

  -- read one by one
  pub made_each : (e : List Float) (n : ℕ) → 3 * n ≤ length e → ((c : ℕ) → c < n → vector e (3 * c) ≡ f c) → take (3 * n) e ≡ spread (tab f n 0)
  unfolding spread flat tab
  made_each e zero h is = refl
  made_each e (suc n) h is =
      let k : 3 * suc n ≡ 3 * n + 3 = omega arith in
      let s : suc n ≡ n + 1 = omega arith in
      let z : n ≡ 0 + n = omega arith in
      ap (λ (j : ℕ). take j e) k ∙ take-add (3 * n) 3 e
      ∙ (λ i. made_each e n (omega arith) (λ c b. is c (omega arith)) i ++ (vector_at e (3 * n) (omega arith) ∙ ap three (is n (omega arith) ∙ ap f z)) i)
      ∙ sym (ap (λ (j : ℕ). spread (tab f j 0)) s ∙ spread_more n 0)
