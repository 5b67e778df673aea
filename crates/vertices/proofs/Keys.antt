-- The keys that the slices hold: compared row by row, and read back from their rows.
use mathlib.Core.Path.{◌≡◌, refl, sym, ap, ◌∙◌, subst}
use mathlib.Core.Bool.{Bool, false, ◌&&◌}
use mathlib.Core.Logic.{◌⊎◌, ⊎_elim}
use mathlib.Core.List.{List, ◌++◌}
use Prim.Native.Nat.{ℕ, ◌+◌, ◌*◌, ◌≤◌}
use native.Mathlib.Nat.{le_trans, mul-le-mul_left}
use native.Mathlib.Omega.{arith}
use borrow.Author.Tests.{eqb-false}
use lib.Dec.{T, eqb}
use lib.ListN.{length, get_or, take}
use lib.Seq.{take-append-le}
use Rattle.lists.specs.Lists.{same_words}
use Rattle.mesh.specs.Words.{words2, words3, words4, no2, no3, no4}
use Rattle.mesh.specs.Vertices.{Key, same_key}
use Rattle.lists.proofs.Tests.{cases}
use Rattle.vertices.specs.declared.places.Widths.{Widths}
use Rattle.lists.specs.Parts.{seg}
use Rattle.vertices.specs.Places.{normal_words, colour_words, texture_words, colour_start, texture_start, key_words, Store, Roomy}
use Rattle.vertices.specs.Search.{two, three, four, key_at, corner_key}
use Rattle.vertices.specs.Hash.{normal_of, colour_of, texture_of}
use Rattle.vertices.specs.Adding.{trimmed}
use Rattle.mesh.proofs.Keys.{same_key_sound}
use Rattle.lists.proofs.Keep.{length_seg}
use Rattle.lists.proofs.Words.{row_fits, front, front_take, front_same}

pub roomy_le : {w : Widths} {s : Store} {n : ℕ} (m : ℕ) → Roomy w s n → m ≤ n → Roomy w s m
roomy_le {w} {s} {n} m r h =
    record {
      widths = r.widths;
      few = omega (arith, r.few);
      sources = omega (arith, r.sources);
      positions = omega (arith, r.positions);
      normals = le_trans (mul-le-mul_left w.normal h) r.normals;
      colours = le_trans (mul-le-mul_left w.colour h) r.colours;
      textures = le_trans (mul-le-mul_left w.texture h) r.textures;
    }

-- two rows of w words, as the front n of them with zeros beyond
same_rows : (n w : ℕ) (a b : List ℕ) (i j : ℕ) → i + w ≤ length a → j + w ≤ length b → w ≤ n
    → same_words (front n (λ (k : ℕ). get_or (seg a i w) k 0)) (front n (λ (k : ℕ). get_or (seg b j w) k 0)) ≡ same_words (seg a i w) (seg b j w)
same_rows n w a b i j ha hb h =
    front_same n (seg a i w) (seg b j w) (length_seg a i w ha ∙ sym (length_seg b j w hb)) (rw (length_seg a i w ha) h)

module _ (w : Widths) (s : Store) (i v : ℕ) (l : List ℕ) (r : Roomy w s (i + 1)) (h : key_words ≤ length l) where
  -- what the code compares
  pub same_key_lem : same_key (corner_key w v l) (key_at w s i)
      ≡ (eqb v (get_or s.sources i 0) && (same_words (seg l 0 w.normal) (seg s.normals (w.normal * i) w.normal)
      && (same_words (seg l colour_start w.colour) (seg s.colours (w.colour * i) w.colour)
      && same_words (seg l texture_start w.texture) (seg s.textures (w.texture * i) w.texture))))
  unfolding same_key corner_key key_at
  same_key_lem =
      let a = same_rows normal_words w.normal l s.normals 0 (w.normal * i) (omega (arith, r.widths)) (le_trans (row_fits w.normal i (i + 1) (omega arith)) r.normals) r.widths.0 in
      let b = same_rows colour_words w.colour l s.colours colour_start (w.colour * i) (omega (arith, r.widths)) (le_trans (row_fits w.colour i (i + 1) (omega arith)) r.colours) r.widths.1 in
      let c = same_rows texture_words w.texture l s.textures texture_start (w.texture * i) (omega (arith, r.widths)) (le_trans (row_fits w.texture i (i + 1) (omega arith)) r.textures) r.widths.2 in
      ap (λ (x : Bool). eqb v (get_or s.sources i 0) && x) (λ j. a j && (b j && c j))

-- two keys that a function tells apart are not the same
pub other_by : (f : Key → ℕ) (k j : Key) → eqb (f k) (f j) ≡ false → same_key k j ≡ false
other_by f k j e =
    ⊎_elim (λ t. absurd (eqb-false (f k) (f j) e (ap f (same_key_sound k j (subst T (sym t) tt))))) (λ t. t) (cases (same_key k j))

-- ---- the rows of a corner's key are its words

pub corner_point_lem : (w : Widths) (v : ℕ) (l : List ℕ) → (corner_key w v l).point ≡ v
unfolding corner_key
corner_point_lem w v l = refl

module _ (w : Widths) (v : ℕ) (l : List ℕ) (d : (w.normal ≤ normal_words) × (w.colour ≤ colour_words) × (w.texture ≤ texture_words)) (h : key_words ≤ length l) where
  read_back : (n u at : ℕ) → at + u ≤ length l → u ≤ n → take u (front n (λ (k : ℕ). get_or (seg l at u) k 0)) ≡ seg l at u
  read_back n u at k m =
      let e = length_seg l at u k in
      ap (λ (j : ℕ). take j (front n (λ (k : ℕ). get_or (seg l at u) k 0))) (sym e) ∙ front_take n (seg l at u) (rw e m)

  pub corner_normal_lem : normal_of w (corner_key w v l) ≡ seg l 0 w.normal
  unfolding normal_of corner_key
  corner_normal_lem = read_back normal_words w.normal 0 (omega (arith, d)) d.0

  pub corner_colour : colour_of w (corner_key w v l) ≡ seg l colour_start w.colour
  unfolding colour_of corner_key
  corner_colour = read_back colour_words w.colour colour_start (omega (arith, d)) d.1

  pub corner_texture : texture_of w (corner_key w v l) ≡ seg l texture_start w.texture
  unfolding texture_of corner_key
  corner_texture = read_back texture_words w.texture texture_start (omega (arith, d)) d.2

  pub corner_trim : trimmed w (corner_key w v l) ≡ corner_key w v l
  unfolding trimmed corner_key
  corner_trim = λ i. record { point = v; normal = three (corner_normal_lem i); colour = four (corner_colour i); texture = two (corner_texture i) }

-- the words of a key: what the widths take of it
pub corner_key_lem : (w : Widths) (k : Key) (l : List ℕ) → (w.normal ≤ normal_words) × (w.colour ≤ colour_words) × (w.texture ≤ texture_words)
    → l ≡ words3 k.normal ++ words4 k.colour ++ words2 k.texture → corner_key w k.point l ≡ trimmed w k
unfolding corner_key trimmed normal_of colour_of texture_of seg
corner_key_lem w k l d e =
    let a = take-append-le w.normal (words3 k.normal) (words4 k.colour ++ words2 k.texture) d.0 in
    let b = take-append-le w.colour (words4 k.colour) (words2 k.texture) d.1 in
    rw e (λ i. record { point = k.point; normal = three (a i); colour = four (b i); texture = two (take w.texture (words2 k.texture)) })

-- an attribute of n words is made, or is not and has the words for none
abbrev pub Whole : {A : Type 0} → ℕ → A → ℕ → A → Type 0
Whole n none u a = (u ≡ n) ⊎ ((u ≡ 0) × (a ≡ none))

-- the widths are those of the key: an attribute that is not made has zeros in it
pub record Fits (w : Widths) (k : Key) : Type 0 where
  pub normal : Whole normal_words no3 w.normal k.normal
  pub colour : Whole colour_words no4 w.colour k.colour
  pub texture : Whole texture_words no2 w.texture k.texture

whole_le : {A : Type 0} (n : ℕ) (none : A) (u : ℕ) (a : A) → Whole n none u a → u ≤ n
whole_le n none u a h = ⊎_elim (λ e. omega arith) (λ e. let q = e.0 in omega arith) h

-- the words of a key that fits: the code's key is that key
pub corner_is : (w : Widths) (k : Key) (l : List ℕ) → Fits w k → l ≡ words3 k.normal ++ words4 k.colour ++ words2 k.texture
    → corner_key w k.point l ≡ k
unfolding trimmed normal_of colour_of texture_of
corner_is w k l F e =
    corner_key_lem w k l (whole_le normal_words no3 w.normal k.normal F.normal, whole_le colour_words no4 w.colour k.colour F.colour, whole_le texture_words no2 w.texture k.texture F.texture) e
    ∙ (λ i. record { point = k.point; normal = a i; colour = b i; texture = c i })
  where
    a : three (take w.normal (words3 k.normal)) ≡ k.normal
    a = ⊎_elim (λ e. rw e) (λ e. rw (e.0, e.1)) F.normal

    b : four (take w.colour (words4 k.colour)) ≡ k.colour
    b = ⊎_elim (λ e. rw e) (λ e. rw (e.0, e.1)) F.colour

    c : two (take w.texture (words2 k.texture)) ≡ k.texture
    c = ⊎_elim (λ e. rw e) (λ e. rw (e.0, e.1)) F.texture
