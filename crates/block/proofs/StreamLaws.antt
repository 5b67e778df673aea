-- Laws of the choice of a value's number, and that it is what the source's Stream::get reads. Assumes nothing.
use Prim.Native.Nat.{ℕ, zero, suc, ◌-◌, ◌/◌, ◌^◌, ◌≤◌, ◌<◌}
use mathlib.Core.Path.{◌≡◌, refl, sym, ap, ◌∙◌}
use mathlib.Core.Bool.{Bool, true, false, cond, not}
use mathlib.Core.List.{List, [], ◌∷◌}
use borrow.Author.Tests.{lt-ltb, le-ltb, eq-eqb, ne_eqb, leb-false, ltb-false}
use native.Mathlib.Omega.{arith}
use lib.Dec.{eqb, ltb, leb, leb-suc-suc, eqb-suc-zero}
use lib.IntN.{ℤ, pos, negsuc}
use lib.ListN.{length, get_or}
use Rattle.lists.proofs.Tabs.{slice_get_tab}
use Rattle.bits.specs.Bits.{entries}
use Rattle.bits.proofs.Entries.{entries_length}
use Rattle.std.specs.Prelude.{Option, Some, None, Result, Ok, Err, slice_get}
use Rattle.std.specs.Bool.{then_some}
use Rattle.std.specs.Result.{OkIff, result_ok}
use Rattle.block.specs.Value.{count_of, value_at}
use Rattle.lists.specs.Loops.{tab}
use Rattle.block.specs.Stream.{is_negative, chosen, itself, entry_at, number_in, number_at, signed, index_get, through, stream_index, found_of, value_get, stream_get, values_of, or_else, Corner, indexed, bare}

-- ---- which list

module _ (own coord : List ℕ) where
  pub chosen_coord : length own / 4 ≡ 0 → coord ≡ chosen own coord
  unfolding chosen
  chosen_coord e = rw (entries_length, eq-eqb _ _ e)

  pub chosen_own : (length own / 4 ≡ 0 → ⊥) → own ≡ chosen own coord
  unfolding chosen
  chosen_own n = rw (entries_length, ne_eqb _ _ n)

-- ---- which number

above : (k : ℕ) → ((k < 2 ^ 32) → ⊥) → 2 ^ 32 ≤ k
above k h = omega arith

given_or : (t : Bool) (w : ℕ) → then_some (not t) w ≡ cond t None (Some w)
given_or true w = refl
given_or false w = refl

module _ (list : List ℕ) (k : ℕ) where
  module _ (e : length list / 4 ≡ 0) where
    pub itself_fits : k < 2 ^ 32 → Some k ≡ number_in list k
    unfolding number_in itself
    itself_fits h = rw (entries_length, eq-eqb _ _ e, lt-ltb k (2 ^ 32) h)

    pub itself_large : 2 ^ 32 ≤ k → None ≡ number_in list k
    unfolding number_in itself
    itself_large h = rw (entries_length, eq-eqb _ _ e, le-ltb k (2 ^ 32) h)

    pub itself_tried : {E : Type 0} (r : Result ℕ E) → OkIff r (k < 2 ^ 32) k → result_ok r ≡ number_in list k
    itself_tried (Ok x) h = rw h.1 (itself_fits h.0)
    itself_tried (Err x) h = itself_large (above k h)

  module _ (n : length list / 4 ≡ 0 → ⊥) where
    listed_in : entry_at (entries list) k ≡ number_in list k
    unfolding number_in
    listed_in = rw (ne_eqb (length (entries list)) 0 (λ z. n (sym (entries_length list) ∙ z)))

    pub entry_past : length list / 4 ≤ k → None ≡ number_in list k
    unfolding entry_at
    entry_past h = rw (← listed_in, entries_length, le-ltb _ _ h)

    pub entry_given : (w : ℕ) (t : Bool) → k < length list / 4 → w ≡ get_or (entries list) k 0 → t ≡ is_negative w → then_some (not t) w ≡ number_in list k
    unfolding entry_at
    entry_given w t h e q = rw (← listed_in, entries_length, lt-ltb _ _ h, ← e, ← q) (given_or t w)

-- ---- Stream::get

-- a number that is not negative fits a u32
fits_itself : (w : ℕ) → is_negative w ≡ false → Some w ≡ itself w
unfolding is_negative itself
fits_itself w e = let h : w < 0x8000_0000 = leb-false 0x8000_0000 w e in rw (lt-ltb w (2 ^ 32) (omega arith))

signed_found : (w : ℕ) → cond (is_negative w) None (Some w) ≡ found_of (Some (signed w))
unfolding signed is_negative
signed_found w = go (leb 0x8000_0000 w) refl
  where
    go : (b : Bool) → leb 0x8000_0000 w ≡ b → cond b None (Some w) ≡ found_of (Some (cond b (negsuc (0xffff_ffff - w)) (pos w)))
    go true e = refl
    go false e = fits_itself w e

entry_get : (ws : List ℕ) (k : ℕ) → entry_at ws k ≡ found_of (index_get (slice_get ws k))
unfolding entry_at
entry_get [] k = rw (le-ltb k 0 (omega arith))
entry_get (w ∷ ws) zero = rw (lt-ltb 0 (suc (length ws)) (omega arith)) (signed_found w)
entry_get (w ∷ ws) (suc k) = rw (leb-suc-suc (suc k) (length ws)) (entry_get ws k)

-- the list of a face, or of a vertex where it is the attribute's own
list_get : (ws : List ℕ) (k : ℕ) → cond (eqb (length ws) 0) (itself k) (entry_at ws k) ≡ found_of (through ws k k)
list_get [] k = refl
list_get (w ∷ ws) k = rw eqb-suc-zero (entry_get (w ∷ ws) k)

corner_get : (coord : List ℕ) (place point : ℕ) → Corner coord place point → number_in coord place ≡ itself point
unfolding number_in entry_at
corner_get coord place point (indexed h q p) =
    let n : eqb (length (entries coord)) 0 ≡ false = ne_eqb (length (entries coord)) 0 (λ z. omega arith) in
    rw (n, lt-ltb _ _ h, q, p) (fits_itself point p)
corner_get coord place point (bare e q) = rw (e, q)

-- the number that a corner reads is Stream::get's
pub stream_number : (own coord : List ℕ) (per_vertex : Bool) (place face point : ℕ) → Corner coord place point
    → number_at own coord per_vertex place face ≡ found_of (stream_index (entries own) per_vertex place face point)
unfolding number_at stream_index chosen number_in
stream_number own coord false place face point at = list_get (entries own) face
stream_number own coord true place face point at = go (entries own) refl
  where
    go : (ws : List ℕ) → entries own ≡ ws → number_in (cond (eqb (length ws) 0) coord own) place ≡ found_of (through ws place point)
    go [] e = corner_get coord place point at
    go (w ∷ ws) e = rw (eqb-suc-zero, e, eqb-suc-zero) (entry_get (w ∷ ws) place)

module _ {A : Type 0} where
  listed_get : (f : ℕ → A) (n k : ℕ) (missing : A) → cond (ltb k n) (f k) missing ≡ or_else (slice_get (tab f n 0) k) missing
  listed_get f n k missing = rw (slice_get_tab f n k) (go (ltb k n))
    where
      go : (b : Bool) → cond b (f k) missing ≡ or_else (cond b (Some (f k)) None) missing
      go true = refl
      go false = refl

  module _ (made : ℕ → A) (w : ℕ) (values : List ℕ) (missing : A) (few : count_of w values ≤ 2 ^ 32) where
    value_get_lem : (z : Option ℤ) → value_at made w values (found_of z) missing ≡ or_else (value_get (values_of made w values) z) missing
    unfolding value_at itself
    value_get_lem None = refl
    value_get_lem (Some (negsuc n)) = refl
    value_get_lem (Some (pos n)) = go (ltb n (2 ^ 32)) refl
      where
        go : (b : Bool) → ltb n (2 ^ 32) ≡ b → value_at made w values (cond b (Some n) None) missing ≡ or_else (slice_get (values_of made w values) n) missing
        go true e = listed_get made (count_of w values) n missing
        go false e =
            let h : 2 ^ 32 ≤ n = ltb-false n (2 ^ 32) e in
            let c : ltb n (count_of w values) ≡ false = le-ltb n (count_of w values) (omega arith) in
            ap (λ (b : Bool). cond b (made n) missing) (sym c) ∙ listed_get made (count_of w values) n missing

    -- the value that a corner reads is what Stream::get gives on the list of the values, the missing value standing for None
    pub stream_get_lem : (own coord : List ℕ) (per_vertex : Bool) (place face point : ℕ) → Corner coord place point
        → value_at made w values (number_at own coord per_vertex place face) missing ≡ or_else (stream_get (values_of made w values) (entries own) per_vertex place face point) missing
    unfolding stream_get
    stream_get_lem own coord per_vertex place face point at =
        rw (stream_number own coord per_vertex place face point at) (value_get_lem (stream_index (entries own) per_vertex place face point))
