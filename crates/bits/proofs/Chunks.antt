-- The entries of a list as its chunks of four bytes give them. Assumes nothing.
use Prim.Native.Nat.{ℕ, ◌+◌, ◌-◌, ◌*◌, ◌/◌, ◌≤◌, ◌<◌}
use mathlib.Core.Path.{◌≡◌, refl, sym, ap, ap₂, ◌∙◌}
use mathlib.Core.List.{List, [], ◌∷◌, ◌++◌}
use native.Mathlib.Omega.{arith}
use lib.ListN.{length, take, drop, length-append, length-drop, take-append-drop}
use lib.Seq.{take_all, take_at, drop_at}
use Rattle.std.specs.Borrow.{Bor}
use Rattle.std.specs.Iterator.{AlwaysYields}
use Rattle.std.specs.Slice.Iter.{chunks_exact_rest, chunks_exact_size, chunks_exact_steps}
use Rattle.std.proofs.lemmas.Iterator.{YieldsList}
use Rattle.std.specs.declared.slice.ChunksExact.{ChunksExact}
use Rattle.lists.specs.Loops.{tab}
use Rattle.bits.specs.Bits.{word_at, entries}
use Rattle.bits.proofs.Entries.{entries_length, entries_part}

-- one chunk has one entry
one : (x : List ℕ) → length x ≡ 4 → entries x ≡ word_at x 0 ∷ []
unfolding entries tab
one x h = let e : length x / 4 ≡ 1 = omega arith in ap (λ (n : ℕ). tab (λ k. word_at x (4 * k)) n 0) e

-- the entries are those of whole chunks
whole : (r : List ℕ) (n : ℕ) → n ≡ length r / 4 → entries (take (4 * n) r) ≡ entries r
whole r n h = entries_part r 0 n (omega arith) ∙ take_all n (entries r) (omega (arith, entries_length r))

-- the entries from s on are those of the bytes from 4 * s on
pub entries_drop : (bs : List ℕ) (s : ℕ) → s ≤ length bs / 4 → entries (drop (4 * s) bs) ≡ drop s (entries bs)
entries_drop bs s h =
    let n = length bs / 4 - s in
    sym (whole (drop (4 * s) bs) n (omega (arith, length-drop (4 * s) bs))) ∙ entries_part bs s n (omega arith) ∙ take_all n (drop s (entries bs)) (omega (arith, length-drop s (entries bs), entries_length bs))

-- the first chunk is the first entry
pub entries_first : {bs : List ℕ} (x r : List ℕ) → bs ≡ x ++ r → length x ≡ 4 → entries bs ≡ word_at x 0 ∷ entries r
entries_first {bs} x r e h =
    let n = length r / 4 in
    let l : length bs ≡ 4 + length r = ap length e ∙ length-append x r ∙ ap (λ (k : ℕ). k + length r) h in
    let a : take 1 (entries bs) ≡ word_at x 0 ∷ [] = sym (entries_part bs 0 1 (omega arith)) ∙ ap (λ (s : List ℕ). entries (take 4 s)) e ∙ ap entries (take_at x r 4 h) ∙ one x h in
    let b : drop 1 (entries bs) ≡ entries r =
    sym (take_all n (drop 1 (entries bs)) (omega (arith, length-drop 1 (entries bs), entries_length bs))) ∙ sym (entries_part bs 1 n (omega arith))
    ∙ ap (λ (s : List ℕ). entries (take (4 * n) (drop 4 s))) e ∙ ap (λ (s : List ℕ). entries (take (4 * n) s)) (drop_at x r 4 h) ∙ whole r n refl in
    sym (take-append-drop 1 (entries bs)) ∙ ap₂ (λ (s t : List ℕ). s ++ t) a b

-- without one there is none
pub entries_none : (bs : List ℕ) → length bs < 4 → entries bs ≡ []
unfolding entries tab
entries_none bs h = let e : length bs / 4 ≡ 0 = omega arith in ap (λ (n : ℕ). tab (λ k. word_at bs (4 * k)) n 0) e

-- chunks of four bytes give the entries, one by one
chunks_yield : (ws : List ℕ) (s : ChunksExact ℕ) → chunks_exact_size s ≡ 4 → entries (chunks_exact_rest s) ≡ ws → AlwaysYields chunks_exact_steps (λ (x : Bor (List ℕ)). word_at x.now 0) s ws
chunks_yield [] s h e = λ x t p. let f = entries_first x.now (chunks_exact_rest t) p.1.0 (p.1.1 ∙ h) in cc
chunks_yield (w ∷ ws) s h e = (
  λ t p. let f = entries_none (chunks_exact_rest s) (omega (arith, p.1.0, h)) in cc,
  λ x t p. let f = entries_first x.now (chunks_exact_rest t) p.1.0 (p.1.1 ∙ h) in (cc, chunks_yield ws t (p.0 ∙ h) cc),
)

pub YieldsList-from_entries : {s : ChunksExact ℕ} (bs : List ℕ) → chunks_exact_rest s ≡ bs → chunks_exact_size s ≡ 4 → YieldsList chunks_exact_steps (λ x. word_at x.now 0) s (entries bs)
YieldsList-from_entries {s} bs e h = record { runs = chunks_yield _ s h (ap entries e) }
