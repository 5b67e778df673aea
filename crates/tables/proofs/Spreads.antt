-- What each face has is written for each of its corners, face by face.
use mathlib.Core.Path.{◌≡◌, sym, ap, ◌∙◌}
use mathlib.Core.Logic.{⊎_elim}
use mathlib.Core.List.{List}
use Prim.Native.Nat.{ℕ, suc, ◌+◌, ◌-◌, ◌≤◌, ◌<◌}
use native.Mathlib.Nat.{eq-or-lt_of_le, le_of_suc-le-suc, not-suc-le-zero}
use native.Mathlib.Numerals.{add-one}
use native.Mathlib.Omega.{arith}
use lib.ListN.{length, get_or, replicate, length-replicate}
use Rattle.tables.specs.declared.layout.Plan.{Plan}
use Rattle.lists.specs.Parts.{spliced, Kept, TableOf}
use Rattle.tables.specs.Soups.{owner_in, start_in, Sound, Spread}
use Rattle.lists.proofs.Keep.{kept_then, kept_at}
use Rattle.lists.proofs.Splices.{put_kept, put_same}
use Rattle.tables.proofs.Stays.{rise, start_le, start_kept, sound_kept}

pub spread_none : {v w : List ℕ} {t : Plan} {f : ℕ → ℕ} → Spread v w t f 0
spread_none = record { at = λ g c l lo hi. absurd (not-suc-le-zero l) }

spread_step : {v w w' : List ℕ} {t : Plan} {f : ℕ → ℕ} (g a b r : ℕ) → Sound v t → Spread v w t f g → g < t.faces → a ≡ start_in v t g → b ≡ start_in v t (suc g)
    → Kept (t.owners + a) w w' → TableOf w' (t.owners + a) (b - a) (λ j. r) → r ≡ f g → Spread v w' t f (g + 1)
unfolding owner_in
spread_step {v} {w} {w'} {t} {f} g a b r S O k ea eb K A er = record {
  at = λ h c l lo hi. ⊎_elim
      (λ (e : h ≡ g).
      let lo' : start_in v t g ≤ c = rw e at lo in
      let hi' : c < start_in v t (suc g) = rw e at hi in
      let s : t.owners + a + (c - a) ≡ t.owners + c = omega arith in
      ap (λ (j : ℕ). get_or w' j 0) (sym s) ∙ A.at (c - a) (omega arith) ∙ er ∙ ap f (sym e))
      (λ (e : h < g).
      let s : suc h + (g - suc h) ≡ g = omega arith in
      let u = rw s at (rise S (suc h) (g - suc h) (omega arith)) in
      kept_at K (t.owners + c) (omega arith) ∙ O.at h c e lo hi)
      (eq-or-lt_of_le (le_of_suc-le-suc (rw add-one at l)));
}

-- a turn of a loop over the faces
pub spread_next : {v w w' : List ℕ} {t : Plan} {f : ℕ → ℕ} (g a b r : ℕ) → Sound v t → Kept t.owners v w → Spread v w t f g → g < t.faces
    → a ≡ start_in w t g → b ≡ start_in w t (suc g) → w' ≡ spliced w (t.owners + a) (replicate (b - a) r) → r ≡ f g
    → Kept t.owners v w' × Sound w' t × Spread v w' t f (g + 1)
spread_next {v} {w} {w'} {t} g a b r S K O k ea eb e er =
    let R = S.room in
    let x : a ≡ start_in v t g = ea ∙ start_kept K t g (omega arith) in
    let y : b ≡ start_in v t (suc g) = eb ∙ start_kept K t (suc g) (omega arith) in
    let h : t.owners + a + (b - a) ≤ length w = omega (arith, K.len, S.rises g k, start_le S (suc g) k) in
    let L = put_kept w (t.owners + a) _ e (length-replicate (b - a) r) h in
    let M = kept_then K L (omega arith) in
    (M, sound_kept M t (omega arith) S, spread_step g a b r S O k x y L (put_same w r h e) er)
