-- The entries of an index list, of a part that holds whole entries, and of the bytes of words. Assumes nothing.
use Prim.Native.Nat.{ℕ, zero, suc, ◌+◌, ◌*◌, ◌/◌, ◌%◌, ◌^◌, ◌≤◌, ◌<◌}
use mathlib.Core.Path.{◌≡◌, refl, ap, sym, ◌∙◌}
use mathlib.Core.List.{List, [], ◌∷◌}
use native.Mathlib.Nat.{le_of_suc-le-suc, not-suc-le-zero}
use native.Mathlib.Omega.{arith}
use lib.ListN.{length, get_or, take, drop, length-take, length-drop}
use lib.Seq.{ext_get_or, get_or-take, get_or-drop}
use Rattle.lists.proofs.Tabs.{length_tab, tab_at}
use Rattle.bits.specs.Bits.{bit_at, field, word_at, entries, bytes_of}
use Rattle.bits.proofs.Fields.{word_is}

pub entries_length : (bs : List ℕ) → length (entries bs) ≡ length bs / 4
unfolding entries
entries_length bs = length_tab (λ k. word_at bs (4 * k)) (length bs / 4) 0

pub entries_at : (bs : List ℕ) (i : ℕ) → i < length bs / 4 → get_or (entries bs) i 0 ≡ word_at bs (4 * i)
unfolding entries
entries_at bs i h = tab_at (λ k. word_at bs (4 * k)) (length bs / 4) i 0 h

-- fields of the same bits are the same
field_agree : (bs cs : List ℕ) (i j n : ℕ) → ((k : ℕ) → k < n → bit_at bs (i + k) ≡ bit_at cs (j + k)) → field bs i n ≡ field cs j n
unfolding field
field_agree bs cs i j zero h = refl
field_agree bs cs i j (suc n) h = rw (field_agree bs cs i j n (λ k l. h k (omega arith)), h n (omega arith))

-- words of the same bytes are the same
word_agree : (bs cs : List ℕ) (a b : ℕ) → ((k : ℕ) → k < 4 → get_or bs (a + k) 0 ≡ get_or cs (b + k) 0) → word_at bs a ≡ word_at cs b
word_agree bs cs a b h = field_agree bs cs (a * 8) (b * 8) 32 same
  where
    same : (k : ℕ) → k < 32 → bit_at bs (a * 8 + k) ≡ bit_at cs (b * 8 + k)
    same k l =
        let p : (a * 8 + k) / 8 ≡ a + k / 8 = omega arith in
        let q : (a * 8 + k) % 8 ≡ k % 8 = omega arith in
        let r : (b * 8 + k) / 8 ≡ b + k / 8 = omega arith in
        let s : (b * 8 + k) % 8 ≡ k % 8 = omega arith in
        rw (p, q, r, s, h (k / 8) (omega arith))

-- the entries of a part that holds whole entries
pub entries_part : (bs : List ℕ) (s n : ℕ) → s + n ≤ length bs / 4 → entries (take (4 * n) (drop (4 * s) bs)) ≡ take n (drop s (entries bs))
entries_part bs s n h = ext_get_or 0 _ _ lens at
  where
    len : length (take (4 * n) (drop (4 * s) bs)) ≡ 4 * n
    len = simp (length-take, length-drop) (omega arith)

    lens : length (entries (take (4 * n) (drop (4 * s) bs))) ≡ length (take n (drop s (entries bs)))
    lens = simp (entries_length, length-take, length-drop) (omega arith)

    at : (i : ℕ) → i < length (entries (take (4 * n) (drop (4 * s) bs))) → get_or (entries (take (4 * n) (drop (4 * s) bs))) i 0 ≡ get_or (take n (drop s (entries bs))) i 0
    at i l =
        let e : length (entries (take (4 * n) (drop (4 * s) bs))) ≡ length (take (4 * n) (drop (4 * s) bs)) / 4 = entries_length _ in
        let li : i < n = omega (arith, len) in
        entries_at (take (4 * n) (drop (4 * s) bs)) i (omega (arith, len))
        ∙ word_agree (take (4 * n) (drop (4 * s) bs)) bs (4 * i) (4 * (s + i)) (λ k lk. same k lk li)
        ∙ sym (entries_at bs (s + i) (omega arith))
        ∙ sym (get_or-drop s (entries bs) i 0)
        ∙ sym (get_or-take n (drop s (entries bs)) i 0 li)
      where
        same : (k : ℕ) → k < 4 → i < n → get_or (take (4 * n) (drop (4 * s) bs)) (4 * i + k) 0 ≡ get_or bs (4 * (s + i) + k) 0
        same k lk li =
            let e : 4 * s + (4 * i + k) ≡ 4 * (s + i) + k = omega arith in
            let l4 : 4 * i + k < 4 * n = omega arith in
            get_or-take (4 * n) (drop (4 * s) bs) (4 * i + k) 0 l4 ∙ get_or-drop (4 * s) bs (4 * i + k) 0 ∙ ap (λ (m : ℕ). get_or bs m 0) e

-- ---- the bytes of words

bytes_length : (ws : List ℕ) → length (bytes_of ws) ≡ 4 * length ws
bytes_length [] = refl
bytes_length (w ∷ ws) = let e = bytes_length ws in omega arith

-- the four bytes of word i
bytes_at : (ws : List ℕ) (i : ℕ) → i < length ws
    → (get_or (bytes_of ws) (4 * i) 0 ≡ get_or ws i 0 / 2 ^ 24) × (get_or (bytes_of ws) (4 * i + 1) 0 ≡ get_or ws i 0 / 2 ^ 16 % 256)
    × (get_or (bytes_of ws) (4 * i + 2) 0 ≡ get_or ws i 0 / 2 ^ 8 % 256) × (get_or (bytes_of ws) (4 * i + 3) 0 ≡ get_or ws i 0 % 256)
bytes_at [] i h = absurd (not-suc-le-zero h)
bytes_at (w ∷ ws) zero h = (refl, refl, refl, refl)
bytes_at (w ∷ ws) (suc i) h =
    let r = bytes_at ws i (le_of_suc-le-suc h) in
    let a : 4 * suc i ≡ suc (suc (suc (suc (4 * i)))) = omega arith in
    let b : 4 * suc i + 1 ≡ suc (suc (suc (suc (4 * i + 1)))) = omega arith in
    let c : 4 * suc i + 2 ≡ suc (suc (suc (suc (4 * i + 2)))) = omega arith in
    let d : 4 * suc i + 3 ≡ suc (suc (suc (suc (4 * i + 3)))) = omega arith in
    rw (b, c, d, a) r

-- the entries of the bytes of words are the words
pub entries_bytes : (ws : List ℕ) → ((k : ℕ) → k < length ws → get_or ws k 0 < 2 ^ 32) → entries (bytes_of ws) ≡ ws
entries_bytes ws low = ext_get_or 0 (entries (bytes_of ws)) ws lens at
  where
    lens : length (entries (bytes_of ws)) ≡ length ws
    lens = omega (arith, entries_length (bytes_of ws), bytes_length ws)

    at : (i : ℕ) → i < length (entries (bytes_of ws)) → get_or (entries (bytes_of ws)) i 0 ≡ get_or ws i 0
    at i h =
        let l : i < length ws = omega (arith, lens) in
        let b = bytes_at ws i l in
        let s = low i l in
        entries_at (bytes_of ws) i (omega (arith, bytes_length ws))
        ∙ sym (word_is (bytes_of ws) (4 * i) (get_or ws i 0 / 2 ^ 24) (get_or ws i 0 / 2 ^ 16 % 256) (get_or ws i 0 / 2 ^ 8 % 256) (get_or ws i 0 % 256)
        (sym b.0) (sym b.1) (sym b.2) (sym b.3) (omega arith) (omega arith) (omega arith) (omega arith))
        ∙ omega arith
