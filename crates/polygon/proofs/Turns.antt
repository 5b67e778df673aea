-- One step of each function that searches or clips, on the tables.
use mathlib.Core.Path.{◌≡◌, sym, ap, ◌∙◌, subst}
use mathlib.Core.Bool.{Bool, true, false}
use mathlib.Core.List.{List, [], ◌∷◌, ◌++◌}
use Prim.Native.Nat.{ℕ, ◌-◌, ◌*◌, ◌≤◌, ◌<◌}
use native.Mathlib.Omega.{arith}
use lib.ListN.{length, get_or, set, take, drop, length-set}
use lib.Seq.{sets, length-take-le, take-append-le}
use lib.Ieee.{le}
use Rattle.std.specs.Prelude.{Option}
use Rattle.lists.specs.Loops.{first}
use Rattle.lists.proofs.Stores.{put_back}
use Rattle.lists.specs.Parts.{Full}
use Rattle.lists.specs.Lists.{remove}
use Rattle.polygon.specs.Ears.{Pt, Tri, triple, +0, cross2, blocks, is_ear, corner, order}
use Rattle.lists.specs.Searches.{Once, found}
use Rattle.polygon.specs.Memo.{dot_of, inside, hits, hit, Tells, ear_of, Known, word, Sound, Clear, Searched, Gone, Held}
use Rattle.polygon.specs.declared.memo.Dot.{Dot}
use Rattle.polygon.specs.declared.memo.Finding.TheVariants.{Bent, Blocked}
use Rattle.lists.proofs.Removal.{once_remove}
use Rattle.polygon.proofs.Keep.{stands_hit, sound_store, sound_start, sound_gone, tells_start, tells_gone, once_start, hits_others, ear_bent, ear_found, ear_free, ear_is}

-- ---- the corners at a place of the order

pub ear_in : (P : ℕ → Pt) (left l : List ℕ) (i a b c : ℕ) → triple a b c ≡ corner l i → Tells left l → ear_of P left a b c ≡ is_ear P l i
ear_in P left l i a b c e t = ap (λ (q : Tri). ear_of P left q.a q.b q.c) e ∙ ear_is P left l i t

-- ---- a search

-- three flags put out, and put back after the search
module _ (P : ℕ → Pt) (a b c : ℕ) (l l₁ l₂ l₃ : List ℕ) (e₁ : l₁ ≡ set l a 0) (e₂ : l₂ ≡ set l₁ b 0) (e₃ : l₃ ≡ set l₂ c 0) where
  -- the triangle of the dots is that of the corners
  module _ (da db dc : Dot) (ea : da ≡ dot_of P a) (eb : db ≡ dot_of P b) (ec : dc ≡ dot_of P c) where
    others : hits l₃ (inside P da db dc) ≡ hits l (blocks P a b c)
    others =
        let e : l₃ ≡ set (set (set l a 0) b 0) c 0 = e₃ ∙ ap (λ (m : List ℕ). set m c 0) (e₂ ∙ ap (λ (m : List ℕ). set m b 0) e₁) in
        (λ i. hits (e i) (inside P (ea i) (eb i) (ec i))) ∙ hits_others P a b c l

    pub others_clear : (from : ℕ) → Clear P l a b c from → (j : ℕ) → j < from → hits l₃ (inside P da db dc) j ≡ false
    others_clear from cl j h = ap (λ (f : ℕ → Bool). f j) others ∙ cl j h

    pub others_found : (k : Option ℕ) → k ≡ found (length l₃) (hit l₃ (inside P da db dc)) → k ≡ found (length l) (hit l (blocks P a b c))
    unfolding hit
    others_found k q =
        let n : length l₃ ≡ length l = ap length e₃ ∙ length-set l₂ c 0 ∙ ap length e₂ ∙ length-set l₁ b 0 ∙ ap length e₁ ∙ length-set l a 0 in
        q ∙ (λ i. found (n i) (first (others i) (n i) 0))

  pub others_back : (x y z : ℕ) (l₄ l₅ l₆ : List ℕ) → x ≡ get_or l a 0 → y ≡ get_or l₁ b 0 → z ≡ get_or l₂ c 0 → l₄ ≡ set l₃ c z → l₅ ≡ set l₄ b y → l₆ ≡ set l₅ a x → l₆ ≡ l
  others_back x y z l₄ l₅ l₆ ex ey ez e₄ e₅ e₆ =
      let r₂ : l₄ ≡ l₂ = e₄ ∙ (λ i. set (e₃ i) c (ez i)) ∙ put_back l₂ c in
      let r₁ : l₅ ≡ l₁ = e₅ ∙ (λ i. set ((r₂ ∙ e₂) i) b (ey i)) ∙ put_back l₁ b in
      e₆ ∙ (λ i. set ((r₁ ∙ e₁) i) a (ex i)) ∙ put_back l a

module _ (P : ℕ → Pt) (left memo : List ℕ) (s : Sound P left memo) (a b c : ℕ) where
  module _ (k : ℕ) (y : le (cross2 (P a) (P b) (P c)) +0 ≡ false) (q : k ≡ hit left (blocks P a b c)) where
    pub search_free : length left ≤ k → true ≡ ear_of P left a b c
    unfolding hit
    search_free g = ear_free P left a b c k y q g

    pub search_hit : (memo' : List ℕ) → k < length left → memo' ≡ sets memo (b * 3) (a ∷ c ∷ word (Blocked k) ∷ []) → (false ≡ ear_of P left a b c) × Sound P left memo'
    unfolding Known hit
    search_hit memo' g r = (ear_found P left a b c k y q g, rw r (sound_store P left memo a b c (Blocked k) s (stands_hit P left a b c k y q g)))

  -- what is known decides

  pub decide_new : (memo' : List ℕ) → le (cross2 (P a) (P b) (P c)) +0 ≡ true → memo' ≡ sets memo (b * 3) (a ∷ c ∷ word Bent ∷ []) → (false ≡ ear_of P left a b c) × Sound P left memo'
  unfolding Known
  decide_new memo' y r = (ear_bent P left a b c y, rw r (sound_store P left memo a b c Bent s y))

-- ---- after searches

module _ (P : ℕ → Pt) (left left' memo' : List ℕ) (S : Searched P left left' memo') where
  pub searched_tells : (l : List ℕ) → Tells left l → Tells left' l
  searched_tells l t = subst (λ (m : List ℕ). Tells m l) (sym S.left) t

  pub searched_sound : Sound P left' memo'
  searched_sound = subst (λ (m : List ℕ). Sound P m memo') (sym S.left) S.sound

  pub searched_then : (left'' memo'' : List ℕ) → Searched P left' left'' memo'' → Searched P left left'' memo''
  searched_then left'' memo'' T = record { left = T.left ∙ S.left; sound = subst (λ (m : List ℕ). Sound P m memo'') S.left T.sound }

-- ---- a corner goes

-- place i taken out of the front m
pub gone_by : (m i b : ℕ) (l last left left' : List ℕ) → m ≤ length l → b ≡ get_or (take m l) i 0 → left' ≡ set left b 0
    → take (length (take m l) - 1) last ≡ remove i (take m l) → length last ≡ length (take m l)
    → Gone m i l (last ++ drop m l) left left'
gone_by m i b l last left left' hm eb f e hl =
    let z : length (take m l) ≡ m = length-take-le m l hm in
    record {
      order = take-append-le (m - 1) last (drop m l) (omega arith) ∙ ap (λ (k : ℕ). take (k - 1) last) (sym z) ∙ e;
      left = f ∙ ap (λ (k : ℕ). set left k 0) eb;
    }

-- ---- the loop that clips

pub held_start : (P : ℕ → Pt) (n : ℕ) (rev : Bool) (l left memo : List ℕ) → l ≡ order rev n → length left ≡ n → Full 1 n left → Full 0 (length memo) memo → Held P l left memo
held_start P n rev l left memo o e ones none =
    record {
      tells = subst (λ (r : List ℕ). Tells left r) (sym o) (tells_start left rev n e ones);
      once = subst (λ (r : List ℕ). Once r) (sym o) (once_start rev n);
      sound = sound_start P left memo none;
    }

pub held_turn : (P : ℕ → Pt) (m i : ℕ) (l l' left v v' memo' : List ℕ) → i < m → m ≤ length l → Tells left (take m l) → Once (take m l) → Searched P left v memo' → Gone m i l l' v v'
    → Held P (take (m - 1) l') v' memo'
held_turn P m i l l' left v v' memo' hi hm t u S G =
    let z : length (take m l) ≡ m = length-take-le m l hm in
    let x = get_or (take m l) i 0 in
    record {
      tells = subst (λ (r : List ℕ). Tells v' r) (sym G.order) (subst (λ (f : List ℕ). Tells f (remove i (take m l))) (sym G.left) (tells_gone v (take m l) i (searched_tells P left v memo' S (take m l) t) u (omega arith)));
      once = subst (λ (r : List ℕ). Once r) (sym G.order) (once_remove i (take m l) u);
      sound = subst (λ (f : List ℕ). Sound P f memo') (sym G.left) (sound_gone P v x memo' (searched_sound P left v memo' S));
    }
