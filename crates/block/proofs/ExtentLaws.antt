-- The widths by kind, sums over lists walked together, and where a list lies in a block of the right length. Assumes nothing.
use Prim.Native.Nat.{ℕ, zero, suc, ◌+◌, ◌*◌, ◌≤◌}
use mathlib.Core.Path.{◌≡◌, refl, ap, sym, ◌∙◌}
use mathlib.Core.List.{List, [], ◌∷◌}
use native.Mathlib.Nat.{add-zero, add-suc, mul-zero}
use native.Mathlib.Omega.{arith}
use lib.ListN.{length, get_or, take, length-take, length-drop, get_or-eq_default}
use lib.Seq.{take_all}
use Rattle.bits.specs.Bits.{entries}
use Rattle.bits.proofs.Entries.{entries_length}
use Rattle.block.specs.Extents.{widths_by, widths, ahead, words_in, word_count, list_at, list_size, place_of, list_bytes}
use Rattle.block.specs.declared.kind.Kind.{Kind}
use Rattle.block.specs.declared.kind.Kind.TheVariants.{FaceSet, LineSet, Grid, Extrusion, Primitives}
use Rattle.block.specs.declared.header.Header.{Header}

module _ (h : Header) where
  -- the widths of a kind, where it is known
  pub widths_of : {k : Kind} → h.kind ≡ k → widths h ≡ widths_by k h.alpha
  unfolding widths
  widths_of e = rw e

  -- the words of list k, where the widths are known
  pub size_by : (ws : List ℕ) (k : ℕ) → widths h ≡ ws → list_size h k ≡ get_or ws k 0 * get_or h.counts k 0
  unfolding list_size
  size_by ws k p = rw p

  pub widths_length : length (widths h) ≡ 8
  unfolding widths
  widths_length = go h.kind
    where
      go : (k : Kind) → length (widths_by k h.alpha) ≡ 8
      go FaceSet = refl
      go LineSet = refl
      go Grid = refl
      go Extrusion = refl
      go (Primitives g) = refl

-- the words of one list more
pub words_more : (ws ns : List ℕ) (k : ℕ) → words_in (take (suc k) ws) ns ≡ words_in (take k ws) ns + get_or ws k 0 * get_or ns k 0
unfolding words_in
words_more [] ns zero = omega arith
words_more [] ns (suc k) = omega arith
words_more (w ∷ ws) [] zero = omega arith
words_more (w ∷ ws) [] (suc k) = omega arith
words_more (w ∷ ws) (n ∷ ns) zero = omega arith
words_more (w ∷ ws) (n ∷ ns) (suc k) = let h = words_more ws ns k in omega arith

words_rise : (ws ns : List ℕ) (k d : ℕ) → words_in (take k ws) ns ≤ words_in (take (k + d) ws) ns
words_rise ws ns k zero = rw add-zero (omega arith)
words_rise ws ns k (suc d) = rw add-suc (omega (arith, words_more ws ns (k + d), words_rise ws ns k d))

-- a list lies within the lists
words_within : (ws ns : List ℕ) (k : ℕ) → words_in (take k ws) ns + get_or ws k 0 * get_or ns k 0 ≤ words_in ws ns
words_within ws ns k =
    let e : take (suc k + length ws) ws ≡ ws = take_all (suc k + length ws) ws (omega arith) in
    omega (arith, words_more ws ns k, rw e at (words_rise ws ns (suc k) (length ws)))

-- ---- where a list lies, from the widths w and the words t before it
module _ (h : Header) (w : List ℕ) (p : w ≡ widths_by h.kind h.alpha) (t : ℕ) where
  wide : length w ≡ 8
  unfolding widths
  wide = ap length p ∙ widths_length h

  pub count_is : t ≡ words_in (take 8 w) h.counts → 4 * (ahead h + t) ≡ 4 * word_count h
  unfolding word_count widths
  count_is q = rw (q, take_all 8 w (omega (arith, wide)), p)

  pub place_is : (k m : ℕ) → t ≡ words_in (take k w) h.counts → m ≡ get_or w k 0 * get_or h.counts k 0 → record { at = 4 * (ahead h + t); len = 4 * m } ≡ place_of h k
  unfolding place_of list_at list_size widths
  place_is k m q r = rw (q, r, p)

  pub place_past : (k : ℕ) → 8 ≤ k → t ≡ words_in (take 8 w) h.counts → record { at = 4 * (ahead h + t); len = 0 } ≡ place_of h k
  place_past k l q =
      let e : take 8 w ≡ take k w = take_all 8 w (omega (arith, wide)) ∙ sym (take_all k w (omega (arith, wide))) in
      let z : get_or w k 0 ≡ 0 = get_or-eq_default w 0 {n = k} (omega (arith, wide)) in
      place_is k 0 (q ∙ rw e) (rw z (omega arith))

module _ (h : Header) (k : ℕ) where
  pub place_at : (place_of h k).at ≡ 4 * list_at h k
  unfolding place_of
  place_at = refl

  pub place_len : (place_of h k).len ≡ 4 * list_size h k
  unfolding place_of
  place_len = refl

-- a list without entries has no bytes
pub list_none : (bs : List ℕ) (h : Header) (k : ℕ) → get_or h.counts k 0 ≡ 0 → list_bytes bs h k ≡ []
unfolding place_of list_size
list_none bs h k e = rw (e, mul-zero) refl

-- ---- a block of the length that its header tells
module _ (bs : List ℕ) (h : Header) (k : ℕ) (whole : length bs ≡ 4 * word_count h) where
  pub list_within : (place_of h k).at + (place_of h k).len ≤ length bs
  unfolding place_of list_at list_size word_count
  list_within = omega (arith, words_within (widths h) h.counts k)

  pub list_length : length (list_bytes bs h k) ≡ 4 * list_size h k
  unfolding place_of
  list_length = simp (length-take, length-drop) (omega (arith, list_within))

  pub list_entries : length (entries (list_bytes bs h k)) ≡ list_size h k
  list_entries = entries_length (list_bytes bs h k) ∙ omega (arith, list_length)
