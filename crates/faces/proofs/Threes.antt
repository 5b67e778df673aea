-- Triangles in threes: renamed one by one where they stand, and all of a face.
use mathlib.Core.Path.{◌≡◌, refl, sym, ap, ◌∙◌}
use mathlib.Core.Bool.{Bool}
use mathlib.Core.List.{List, [], ◌∷◌, ◌++◌}
use Prim.Native.Nat.{ℕ, suc, ◌+◌, ◌-◌, ◌*◌, ◌≤◌, ◌<◌, zero}
use native.Mathlib.Omega.{arith}
use borrow.Rule.Slice.PartMut.{put_mid}
use lib.ListN.{length, get_or, take, drop, take-append-drop}
use lib.Seq.{get_or-take, get_or-drop}
use Rattle.lists.proofs.Lists.{drop_three}
use Rattle.lists.proofs.Splices.{splice_start, splice_join, splice_over, mid_spliced, put_size, put_part, put_above}
use Rattle.lists.specs.Parts.{spliced}
use Rattle.polygon.specs.Ears.{Tri, triple, flat}
use Rattle.polygon.proofs.Whole.{length_flat}
use Rattle.mesh.specs.Vertices.{wound}
use Rattle.faces.specs.Naming.{threes, numbered}

pub length_numbered : (ccw : Bool) (named : List ℕ) (ts : List Tri) → length (numbered ccw named ts) ≡ length ts * 3
unfolding numbered wound
length_numbered ccw named [] = refl
length_numbered ccw named (t ∷ ts) = let h : length (numbered ccw named ts) ≡ length ts * 3 = length_numbered ccw named ts in omega arith

pub length_threes : (n : ℕ) (l : List ℕ) → length (threes n l) ≤ n
unfolding threes
length_threes zero l = omega arith
length_threes (suc n) [] = omega arith
length_threes (suc n) (a ∷ []) = omega arith
length_threes (suc n) (a ∷ b ∷ []) = omega arith
length_threes (suc n) (a ∷ b ∷ c ∷ l) = omega (arith, length_threes n l)

-- ---- the loop that renames

module _ (ccw : Bool) (named : List ℕ) where
  -- one triangle, which is renamed as a part of the words
  pub tri_put : (o r : List ℕ) (k m : ℕ) → m ≡ k + 3 → r ≡ numbered ccw named (triple (get_or (take (m - k) (drop k o)) 0 0) (get_or (take (m - k) (drop k o)) 1 0) (get_or (take (m - k) (drop k o)) 2 0) ∷ [])
      → put_mid k (m - k) o r ≡ spliced o k (numbered ccw named (triple (get_or o k 0) (get_or o (k + 1) 0) (get_or o (k + 2) 0) ∷ []))
  tri_put o r k m h e =
      let word : (i j : ℕ) → i < m - k → k + i ≡ j → get_or (take (m - k) (drop k o)) i 0 ≡ get_or o j 0
      = λ i j b q. get_or-take (m - k) (drop k o) i 0 b ∙ get_or-drop k o i 0 ∙ ap (λ (x : ℕ). get_or o x 0) q in
      let a : get_or (take (m - k) (drop k o)) 0 0 ≡ get_or o k 0 = word 0 k (omega arith) (omega arith) in
      let b : get_or (take (m - k) (drop k o)) 1 0 ≡ get_or o (k + 1) 0 = word 1 (k + 1) (omega arith) refl in
      let c : get_or (take (m - k) (drop k o)) 2 0 ≡ get_or o (k + 2) 0 = word 2 (k + 2) (omega arith) refl in
      mid_spliced k (m - k) o (e ∙ (λ i. numbered ccw named (triple (a i) (b i) (c i) ∷ [])))
      (omega (arith, length_numbered ccw named (triple (get_or o k 0) (get_or o (k + 1) 0) (get_or o (k + 2) 0) ∷ [])))

  -- i of n triangles are renamed
  pub record Renaming (o₀ o : List ℕ) (at n i : ℕ) : Type 0 where
    pub within : i ≤ n
    pub long : length o ≡ length o₀
    pub rest : spliced o (at + i * 3) (numbered ccw named (threes (n - i) (drop (at + i * 3) o))) ≡ spliced o₀ at (numbered ccw named (threes n (drop at o₀)))

  pub renaming_go : (o₀ o o' : List ℕ) (at n i k : ℕ) → i < n → k ≡ at + i * 3 → at + n * 3 ≤ length o₀
      → o' ≡ spliced o k (numbered ccw named (triple (get_or o k 0) (get_or o (k + 1) 0) (get_or o (k + 2) 0) ∷ []))
      → Renaming o₀ o at n i → Renaming o₀ o' at n (i + 1)
  unfolding numbered wound threes
  renaming_go o₀ o o' at n i k h q b e R =
      let T : Tri = triple (get_or o k 0) (get_or o (k + 1) 0) (get_or o (k + 2) 0) in
      let m : ℕ = n - (i + 1) in
      let r : List ℕ = drop (k + 3) o in
      let x : length (numbered ccw named (T ∷ [])) ≡ 3 = length_numbered ccw named (T ∷ []) in
      let g : k + 3 ≤ length o = omega (arith, R.long) in
      let f : n - i ≡ suc (n - (i + 1)) = omega arith in
      let s : at + (i + 1) * 3 ≡ k + 3 = omega arith in
      record {
        within = omega arith;
        long = put_size o k (numbered ccw named (T ∷ [])) e x g ∙ R.long;
        rest =
            ap (λ (j : ℕ). spliced o' j (numbered ccw named (threes m (drop j o')))) s
            ∙ ap (λ (x : List ℕ). spliced o' (k + 3) (numbered ccw named (threes m x))) (put_above o k (numbered ccw named (T ∷ [])) e x g)
            ∙ ap (λ (x : List ℕ). spliced x (k + 3) (numbered ccw named (threes m r))) e
            ∙ ap (λ (j : ℕ). spliced (spliced o k (numbered ccw named (T ∷ []))) (k + j) (numbered ccw named (threes m r))) (sym x)
            ∙ sym (splice_join o k (numbered ccw named (T ∷ [])) (numbered ccw named (threes m r)))
            ∙ ap (λ (j : ℕ). spliced o k (numbered ccw named (threes j (get_or o k 0 ∷ get_or o (k + 1) 0 ∷ get_or o (k + 2) 0 ∷ r)))) (sym f)
            ∙ ap (λ (x : List ℕ). spliced o k (numbered ccw named (threes (n - i) x))) (sym (drop_three 0 o k (omega arith)))
            ∙ ap (λ (j : ℕ). spliced o j (numbered ccw named (threes (n - i) (drop j o)))) q
            ∙ R.rest;
      }

  pub renaming_end : (o₀ o : List ℕ) (at n i : ℕ) → n ≤ i → Renaming o₀ o at n i → o ≡ spliced o₀ at (numbered ccw named (threes n (drop at o₀)))
  unfolding numbered wound threes
  renaming_end o₀ o at n i h R =
      let z : n - i ≡ 0 = omega arith in
      splice_start o (at + i * 3)
      ∙ sym (ap (λ (j : ℕ). spliced o (at + i * 3) (numbered ccw named (threes j (drop (at + i * 3) o)))) z)
      ∙ R.rest

  -- ---- all of a face

  threes_flat : (ts : List Tri) (r : List ℕ) → threes (length ts) (flat ts ++ r) ≡ ts
  unfolding threes flat
  threes_flat [] r = refl
  threes_flat (t ∷ ts) r = ap (λ (l : List Tri). t ∷ l) (threes_flat ts r)

  -- triangles that were written and then renamed
  pub in_place : (o X Y : List ℕ) (ts : List Tri) (at n : ℕ) → length ts ≡ n → at + n * 3 ≤ length o → X ≡ spliced o at (flat ts)
      → Y ≡ spliced X at (numbered ccw named (threes n (drop at X))) → Y ≡ spliced o at (numbered ccw named ts)
  in_place o X Y ts at n e h x y =
      let ys : List ℕ = numbered ccw named ts in
      let a : length (flat ts) ≡ n * 3 = length_flat ts ∙ ap (λ (k : ℕ). k * 3) e in
      let b : length ys ≡ n * 3 = length_numbered ccw named ts ∙ ap (λ (k : ℕ). k * 3) e in
      let d : take (n * 3) (drop at X) ≡ flat ts = put_part o at (flat ts) x a h in
      let q : threes n (drop at X) ≡ ts =
      ap (threes n) (sym (take-append-drop (n * 3) (drop at X)) ∙ ap (λ (l : List ℕ). l ++ drop (n * 3) (drop at X)) d)
      ∙ ap (λ (j : ℕ). threes j (flat ts ++ drop (n * 3) (drop at X))) (sym e) ∙ threes_flat ts (drop (n * 3) (drop at X)) in
      y ∙ ap (λ (l : List Tri). spliced X at (numbered ccw named l)) q ∙ ap (λ (l : List ℕ). spliced l at ys) x ∙ splice_over o at (flat ts) ys (a ∙ sym b) (omega arith)
