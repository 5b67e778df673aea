-- The loops that list the corners, over the entries of a run and over the runs; and what the tables then hold.
use mathlib.Core.Path.{◌≡◌, refl, sym, ap, ◌∙◌}
use mathlib.Core.List.{List, [], ◌∷◌, ◌++◌}
use Prim.Native.Nat.{ℕ, suc, ◌+◌, ◌≤◌, ◌<◌}
use native.Mathlib.Nat.{add-zero, suc-add, add-suc}
use native.Mathlib.Numerals.{add-one}
use native.Mathlib.Omega.{arith}
use lib.ListN.{length, get_or, set, drop, length-set}
use Rattle.bits.specs.Bits.{entries}
use Rattle.block.specs.Runs.{Run, run_of, runs, sum_over}
use Rattle.lists.specs.Lists.{map_n, join_n}
use Rattle.mesh.specs.Lines.{these, somes}
use Rattle.mesh.specs.Sizes.{named}
use Rattle.lists.proofs.Lists.{All_get_or, head_left}
use Rattle.lists.specs.Parts.{Kept, TableOf}
use Rattle.lists.proofs.Keep.{kept_all, kept_set, table_none, table_more}
use Rattle.corners.specs.declared.laid.CornerTables.{CornerTables}
use Rattle.corners.specs.Laid.{Laid}
use Rattle.corners.specs.Corner.{point_at, place_at, number_at}
use Rattle.lists.proofs.Splices.{table_miss}
use Rattle.lines.specs.Uses.{LineUse, no_use, use_of, run_uses, line_uses, listed_at, listed, Listed}
use Rattle.lists.specs.Parts.{Added}
use Rattle.lists.proofs.Putting.{Split, Way, Left, left_all, left_here, left_next, left_end}
use Rattle.lines.proofs.Usage.{use_here, length_uses, uses_below}

-- ---- corners listed one after another

module _ (t : CornerTables) where
  length_listed : (w : List ℕ) (c : ℕ) (us : List LineUse) → length (listed t w c us) ≡ length w
  unfolding listed listed_at
  length_listed w c [] = refl
  length_listed w c (u ∷ us) = length_listed (listed_at t w c u) (suc c) us ∙ simp length-set

  listed_append : (w : List ℕ) (c : ℕ) (us vs : List LineUse) → listed t w c (us ++ vs) ≡ listed t (listed t w c us) (c + length us) vs
  unfolding listed
  listed_append w c [] vs = ap (λ (n : ℕ). listed t w n vs) (sym (add-zero c))
  listed_append w c (u ∷ us) vs =
      listed_append (listed_at t w c u) (suc c) us vs ∙ ap (λ (n : ℕ). listed t (listed t (listed_at t w c u) (suc c) us) n vs) (suc-add c (length us) ∙ sym (add-suc c (length us)))

  listing : Way (listed t)
  unfolding listed
  listing = record { none = λ o a. refl; joins = listed_append }

-- ---- the entries of a run

-- of the entries es of the run at s, line `num`, `rest` are left, the first of them at place s + k, since the next corner was c₀ and the words were w₀
pub record RunListing (p num s : ℕ) (es : List ℕ) (t : CornerTables) (c₀ : ℕ) (w₀ : List ℕ) (k : ℕ) (rest : List ℕ) (c : ℕ) (w : List ℕ) : Type 0 where
  pub passed : k + length rest ≡ length es
  pub left : Left (listed t) (run_uses p num (run_of s es)) c₀ w₀ (somes (map_n (use_of p num) (s + k) rest)) c w

pub run_start : {p num s : ℕ} {es : List ℕ} {t : CornerTables} {c : ℕ} {w : List ℕ} → RunListing p num s es t c w 0 es c w
unfolding run_uses
run_start {t = t} = record { passed = omega arith; left = rw add-zero (left_all (listed t)) }

module _ {p num s : ℕ} {es : List ℕ} {t : CornerTables} {c₀ : ℕ} {w₀ : List ℕ} {k : ℕ} {rest : List ℕ} {c : ℕ} {w : List ℕ} (L : RunListing p num s es t c₀ w₀ k rest c w) where
  module _ {e : ℕ} {r : List ℕ} (d : rest ≡ e ∷ r) where
    next_entry : Split (somes (map_n (use_of p num) (s + k) rest)) (these (use_of p num (s + k) e)) (somes (map_n (use_of p num) (s + (k + 1)) r))
    unfolding somes map_n
    next_entry =
        let q : suc (s + k) ≡ s + (k + 1) = omega arith in
        record {
          is = ap (λ (l : List ℕ). somes (map_n (use_of p num) (s + k) l)) d ∙ ap (λ (n : ℕ). these (use_of p num (s + k) e) ++ somes (map_n (use_of p num) n r)) q;
        }

    pub entry_place : k + 1 ≤ length es
    entry_place = omega (arith, L.passed, ap length d)

    -- an entry that names a point is one of the corners
    pub entry_here : c₀ + length (run_uses p num (run_of s es)) ≤ t.count → e < p → c < t.count
    entry_here q b = omega (arith, left_here L.left next_entry, ap length (use_here num (s + k) b))

    pub entry_next : {c' : ℕ} {w' : List ℕ} → Added (listed t) (these (use_of p num (s + k) e)) c w c' w' → RunListing p num s es t c₀ w₀ (k + 1) r c' w'
    entry_next A = record { passed = omega (arith, L.passed, ap length d); left = left_next L.left next_entry (listing t) (length_listed t _ _ _) A }

  pub run_end : rest ≡ [] → Added (listed t) (run_uses p num (run_of s es)) c₀ w₀ c w
  unfolding somes map_n
  run_end d = left_end L.left (listing t) (ap (λ (l : List ℕ). somes (map_n (use_of p num) (s + k) l)) d)

-- ---- the runs

-- the runs rs of the list bs are left, the first of them as line `num`, since the words were w₀
pub record Listing (p : ℕ) (bs : List ℕ) (t : CornerTables) (w₀ : List ℕ) (num : ℕ) (rs : List Run) (c : ℕ) (w : List ℕ) : Type 0 where
  pub left : Left (listed t) (line_uses p (entries bs)) 0 w₀ (join_n (run_uses p) num rs) c w

pub listing_start : {p : ℕ} {bs : List ℕ} {t : CornerTables} {w : List ℕ} → Listing p bs t w 0 (runs (entries bs)) 0 w
unfolding line_uses
listing_start {t = t} = record { left = left_all (listed t) }

module _ {p : ℕ} {bs : List ℕ} {t : CornerTables} {w₀ : List ℕ} {num : ℕ} {rs : List Run} {c : ℕ} {w : List ℕ} (L : Listing p bs t w₀ num rs c w) where
  -- the first of them is r
  module _ {r : Run} {more : List Run} (F : rs ≡ r ∷ more) where
    next_run : Split (join_n (run_uses p) num rs) (run_uses p num r) (join_n (run_uses p) (num + 1) more)
    unfolding join_n
    next_run = record { is = rw add-one (ap (join_n (run_uses p) num) F) }

    pub listing_here : t.count ≡ sum_over (named p) (runs (entries bs)) → c + length (run_uses p num r) ≤ t.count
    listing_here e = omega (arith, left_here L.left next_run, length_uses p (entries bs))

    pub listing_next : {c' : ℕ} {w' : List ℕ} → Added (listed t) (run_uses p num r) c w c' w' → Listing p bs t w₀ (num + 1) more c' w'
    listing_next A = record { left = left_next L.left next_run (listing t) (length_listed t _ _ _) A }

-- ---- the tables

-- corner c in the three tables
module _ (t : CornerTables) (w : List ℕ) (c : ℕ) (u : LineUse) (Q : Laid t (length w)) (l : c < t.count) where
  w₁ : List ℕ
  w₁ = set w (t.corners + c) u.point

  w₂ : List ℕ
  w₂ = set w₁ (t.places + c) u.place

  long₁ : length w₁ ≡ length w
  unfolding w₁
  long₁ = length-set w (t.corners + c) u.point

  long₂ : length w₂ ≡ length w
  unfolding w₂
  long₂ = length-set w₁ (t.places + c) u.place ∙ long₁

  points_more : {f : ℕ → ℕ} → u.point ≡ f c → TableOf w t.corners c f → TableOf (listed_at t w c u) t.corners (c + 1) f
  unfolding w₁ w₂ listed_at
  points_more {f} q T =
      table_miss w₂ t.corners (c + 1) (t.numbers + c) u.number (λ j b r. omega arith)
      (table_miss w₁ t.corners (c + 1) (t.places + c) u.place (λ j b r. omega arith) (table_more w t.corners c u.point (omega arith) q T))

  places_more : {f : ℕ → ℕ} → u.place ≡ f c → TableOf w t.places c f → TableOf (listed_at t w c u) t.places (c + 1) f
  unfolding w₁ w₂ listed_at
  places_more {f} q T =
      table_miss w₂ t.places (c + 1) (t.numbers + c) u.number (λ j b r. omega arith)
      (table_more w₁ t.places c u.place (omega (arith, long₁)) q (table_miss w t.places c (t.corners + c) u.point (λ j b r. omega arith) T))

  numbers_more : {f : ℕ → ℕ} → u.number ≡ f c → TableOf w t.numbers c f → TableOf (listed_at t w c u) t.numbers (c + 1) f
  unfolding w₁ w₂ listed_at
  numbers_more {f} q T =
      table_more w₂ t.numbers c u.number (omega (arith, long₂)) q
      (table_miss w₁ t.numbers c (t.places + c) u.place (λ j b r. omega arith) (table_miss w t.numbers c (t.corners + c) u.point (λ j b r. omega arith) T))

  kept_more : {v : List ℕ} → Kept t.corners v w → Kept t.corners v (listed_at t w c u)
  unfolding listed_at
  kept_more K = kept_set _ u.number (kept_set _ u.place (kept_set _ u.point K (omega arith)) (omega arith)) (omega arith)

-- the tables hold the first c of the corners us; below them stands what stood in v
record Holding (us : List LineUse) (t : CornerTables) (v w : List ℕ) (c : ℕ) : Type 0 where
  pub kept : Kept t.corners v w
  pub points : TableOf w t.corners c (λ j. (get_or us j no_use).point)
  pub places : TableOf w t.places c (λ j. (get_or us j no_use).place)
  pub numbers : TableOf w t.numbers c (λ j. (get_or us j no_use).number)

module _ (us : List LineUse) (t : CornerTables) (v : List ℕ) (Q : Laid t (length v)) where
  holding_all : (more : List LineUse) (c : ℕ) (w : List ℕ) → drop c us ≡ more → c + length more ≡ t.count → Holding us t v w c → Holding us t v (listed t w c more) t.count
  unfolding listed
  holding_all [] c w d n H = let e : c ≡ t.count = omega arith in rw e at H
  holding_all (u ∷ more) c w d n H =
      let g = head_left us c u more no_use d in
      let l : c < t.count = omega arith in
      let q : Laid t (length w) = rw H.kept.len Q in
      holding_all more (suc c) (listed_at t w c u) g.1 (omega arith)
      (rw (sym (add-one c)) (record {
        kept = kept_more t w c u q l H.kept;
        points = points_more t w c u q l (sym (ap (λ (r : LineUse). r.point) g.0)) H.points;
        places = places_more t w c u q l (sym (ap (λ (r : LineUse). r.place) g.0)) H.places;
        numbers = numbers_more t w c u q l (sym (ap (λ (r : LineUse). r.number) g.0)) H.numbers;
      }))

  listed_all : length us ≡ t.count → Holding us t v (listed t v 0 us) t.count
  listed_all n = holding_all us 0 v refl (omega arith) (record { kept = kept_all; points = table_none; places = table_none; numbers = table_none })

pub listing_end : {p : ℕ} {bs : List ℕ} {t : CornerTables} {w₀ : List ℕ} {num : ℕ} {rs : List Run} {c : ℕ} {w : List ℕ} → Listing p bs t w₀ num rs c w
    → rs ≡ [] → Laid t (length w₀) → p ≡ t.spots → t.count ≡ sum_over (named p) (runs (entries bs)) → Listed p (entries bs) t w₀ w
unfolding point_at place_at number_at join_n
listing_end {p} {bs} {t} {w₀} {num} L h Q q n =
    let U = line_uses p (entries bs) in
    let l : length U ≡ t.count = length_uses p (entries bs) ∙ sym n in
    let H = listed_all U t w₀ Q l in
    rw (left_end L.left (listing t) (ap (join_n (run_uses p) num) h)).made (record {
      kept = H.kept;
      points = H.points.at;
      places = H.places.at;
      numbers = H.numbers.at;
      within = λ j b. rw (H.points.at j b, ← q) (All_get_or (λ (u : LineUse). u.point < p) U (uses_below p (entries bs)) no_use j (omega arith));
    })
