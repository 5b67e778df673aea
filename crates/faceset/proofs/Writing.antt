-- Words written to a part of the tables, and what other parts keep: one face more.
use mathlib.Core.Path.{◌≡◌, refl, sym, ap, ◌∙◌}
use mathlib.Core.Logic.{inl, inr}
use mathlib.Core.List.{List, map}
use Prim.Native.Nat.{ℕ, suc, ◌+◌, ◌≤◌, ◌<◌}
use native.Mathlib.Numerals.{add-one}
use native.Mathlib.Omega.{arith}
use lib.ListN.{length, get_or, set, length-set, length-map}
use Rattle.lists.specs.Loops.{tab}
use Rattle.lists.specs.Parts.{spliced, Out}
use Rattle.lists.proofs.Tabs.{tab_same, tab_list}
use Rattle.lists.proofs.Keep.{set_hit, set_miss}
use Rattle.lists.proofs.Lists.{get_or_map_lt}
use Rattle.lists.proofs.Splices.{set_is, put_size, put_at, put_out}
use Rattle.tables.specs.declared.layout.Plan.{Plan}
use Rattle.tables.specs.Soups.{point_in, start_in, number_in, place_in}
use Rattle.tables.specs.Listed.{Use, no_use, Beside}
use Rattle.tables.proofs.Besides.{beside_then, beside_corners, beside_starts, beside_places, beside_numbers}
use Rattle.faceset.specs.declared.listing.Progress.{Progress}
use Rattle.faceset.specs.Adding.{Fits, points_used, places_used, face_added, FacePut}
use Rattle.tables.proofs.Putting.{put_are}

-- ---- one face: its points, its places, its number, and the first corner after it

module _ (t : Plan) (j c number : ℕ) (us : List Use) (w : List ℕ) (F : Fits (length w) t j c (length us)) where
  abbrev es : List ℕ
  es = points_used us

  abbrev ps : List ℕ
  ps = places_used us

  abbrev w₁ : List ℕ
  w₁ = spliced w (t.corners + c) es

  abbrev w₂ : List ℕ
  w₂ = spliced w₁ (t.places + c) ps

  abbrev w₃ : List ℕ
  w₃ = set w₂ (t.numbers + j) number

  wide : length es ≡ length us
  wide = length-map us (λ (u : Use). u.point)

  room₁ : t.corners + c + length us ≤ length w
  room₁ = let R = F.room in omega (arith, F.corners)

  size₁ : length w₁ ≡ length w
  size₁ = put_size w (t.corners + c) es refl wide room₁

  room₂ : t.places + c + length us ≤ length w₁
  room₂ = let R = F.room in omega (arith, F.corners, size₁)

  long : length ps ≡ length us
  long = length-map us (λ (u : Use). u.place)

  size₂ : length w₂ ≡ length w
  size₂ = put_size w₁ (t.places + c) ps refl long room₂ ∙ size₁

  room₃ : t.numbers + j < length w₂
  room₃ = let R = F.room in omega (arith, F.face, size₂)

  room₄ : t.starts + suc j < length w₃
  room₄ = let R = F.room in omega (arith, F.face, size₂, length-set w₂ (t.numbers + j) number)

  pub face_beside : Beside t w (face_added t j c number us w)
  unfolding face_added
  face_beside =
      let R = F.room in
      let fc = F.corners in
      let ff = F.face in
      beside_then (beside_corners w (t.corners + c) es refl wide room₁ (omega arith) (omega arith))
      (beside_then (beside_places w₁ (t.places + c) ps refl long room₂ (omega arith) (omega arith))
      (beside_then (beside_numbers w₂ (t.numbers + j) _ (set_is w₂ (t.numbers + j) number room₃) refl (omega (arith, room₃)) (omega arith) (omega arith))
      (beside_starts w₃ (t.starts + suc j) _ (set_is w₃ (t.starts + suc j) (c + length us) room₄) refl (omega (arith, room₄)) (omega arith) (omega arith))))

  -- a place that is none of these
  face_out : (i : ℕ) → Out (t.corners + c) (length us) i → Out (t.places + c) (length us) i → (i ≡ t.numbers + j → ⊥) → (i ≡ t.starts + suc j → ⊥)
      → get_or (face_added t j c number us w) i 0 ≡ get_or w i 0
  unfolding face_added
  face_out i a b d e =
      set_miss w₃ (t.starts + suc j) (c + length us) i e ∙ set_miss w₂ (t.numbers + j) number i d
      ∙ put_out w₁ (t.places + c) ps refl long room₂ 0 i b ∙ put_out w (t.corners + c) es refl wide room₁ 0 i a

  pub start_old : (i : ℕ) → i < suc j → start_in (face_added t j c number us w) t i ≡ start_in w t i
  unfolding start_in
  start_old i h = let R = F.room in let f = F.face in face_out (t.starts + i) (inr (omega (arith, F.corners))) (inl (omega arith)) (λ e. omega arith) (λ e. omega arith)

  pub number_old : (i : ℕ) → i < j → number_in (face_added t j c number us w) t i ≡ number_in w t i
  unfolding number_in
  number_old i h = let R = F.room in let f = F.face in let k = F.corners in face_out (t.numbers + i) (inr (omega arith)) (inr (omega arith)) (λ e. omega arith) (λ e. omega arith)

  pub point_old : (k : ℕ) → k < c → point_in (face_added t j c number us w) t k ≡ point_in w t k
  unfolding point_in
  point_old k h = let R = F.room in let f = F.corners in face_out (t.corners + k) (inl (omega arith)) (inl (omega arith)) (λ e. omega arith) (λ e. omega arith)

  pub place_old : (k : ℕ) → k < c → place_in (face_added t j c number us w) t k ≡ place_in w t k
  unfolding place_in
  place_old k h = let R = F.room in let f = F.corners in let g = F.face in face_out (t.places + k) (inr (omega arith)) (inl (omega arith)) (λ e. omega arith) (λ e. omega arith)

  pub start_new : start_in (face_added t j c number us w) t (suc j) ≡ c + length us
  unfolding start_in face_added
  start_new = set_hit w₃ (t.starts + suc j) (c + length us) (t.starts + suc j) room₄ refl

  pub number_new : number_in (face_added t j c number us w) t j ≡ number
  unfolding number_in face_added
  number_new =
      let R = F.room in
      let f = F.face in
      set_miss w₃ (t.starts + suc j) (c + length us) (t.numbers + j) (λ e. omega arith)
      ∙ set_hit w₂ (t.numbers + j) number (t.numbers + j) room₃ refl

  -- what was put below the numbers
  face_put : (a i : ℕ) → a + (c + i) < t.numbers → (a + (c + i) ≡ t.starts + suc j → ⊥) → get_or (face_added t j c number us w) (a + (c + i)) 0 ≡ get_or w₂ (a + c + i) 0
  unfolding face_added
  face_put a i h n =
      let s : a + (c + i) ≡ a + c + i = omega arith in
      set_miss w₃ (t.starts + suc j) (c + length us) (a + (c + i)) n
      ∙ set_miss w₂ (t.numbers + j) number (a + (c + i)) (λ e. omega arith) ∙ ap (λ (k : ℕ). get_or w₂ k 0) s

  pub point_new : (i : ℕ) → i < length us → point_in (face_added t j c number us w) t (c + i) ≡ (get_or us i no_use).point
  unfolding point_in
  point_new i h =
      let R = F.room in
      let f = F.corners in
      face_put t.corners i (omega arith) (λ e. omega arith)
      ∙ put_out w₁ (t.places + c) ps refl long room₂ 0 (t.corners + c + i) (inl (omega arith))
      ∙ put_at w (t.corners + c) es refl wide room₁ 0 i h ∙ get_or_map_lt (λ (u : Use). u.point) us i 0 no_use h

  pub place_new : (i : ℕ) → i < length us → place_in (face_added t j c number us w) t (c + i) ≡ (get_or us i no_use).place
  unfolding place_in
  place_new i h =
      let R = F.room in
      let f = F.corners in
      let g = F.face in
      face_put t.places i (omega arith) (λ e. omega arith)
      ∙ put_at w₁ (t.places + c) ps refl long room₂ 0 i h ∙ get_or_map_lt (λ (u : Use). u.place) us i 0 no_use h

-- as it is put: f says the points, and g the places
pub face_put_is : {P Q : ℕ → ℕ → Type 0} {t : Plan} {p r : Progress} {number n : ℕ} {w w' : List ℕ} (f g : ℕ → ℕ) → FacePut P Q t p number n w w' r → (us : List Use) → length us ≡ n
    → ((i : ℕ) → i < n → get_or us i no_use ≡ record { point = f i; place = g i })
    → ((i v : ℕ) → i < n → P i v → v ≡ f i)
    → ((i v : ℕ) → i < n → Q i v → v ≡ g i)
    → w' ≡ face_added t p.faces p.corner.0 number us w
unfolding face_added
face_put_is {n = n} f g F us l u a b =
    let e = put_are f F.points a ∙ ap (spliced _ _) (each (λ (u : Use). u.point) f (λ i h. ap (λ (u : Use). u.point) (u i h))) in
    let d = put_are g F.places b ∙ ap (spliced _ _) (each (λ (u : Use). u.place) g (λ i h. ap (λ (u : Use). u.place) (u i h))) in
    rw (F.row, d, e, ← l, add-one) refl
  where
    each : (of : Use → ℕ) (h : ℕ → ℕ) → ((i : ℕ) → i < n → of (get_or us i no_use) ≡ h i) → tab h n 0 ≡ map of us
    each of h e =
        tab_same h (λ i. get_or (map of us) i 0) n (λ i b. sym (get_or_map_lt of us i 0 no_use (omega arith) ∙ e i b))
        ∙ tab_list 0 (map of us) n (length-map us of ∙ l)
