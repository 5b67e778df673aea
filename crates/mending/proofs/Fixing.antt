-- The pass over the vertices: start, one turn and end.
use mathlib.Core.Path.{◌≡◌, refl, sym, ap, ◌∙◌}
use mathlib.Core.Logic.{inr}
use mathlib.Core.Bool.{Bool, true, false, cond, true≢false}
use mathlib.Core.List.{List, [], ◌++◌, map}
use Prim.Native.Nat.{ℕ, ◌+◌, ◌*◌, ◌≤◌, ◌<◌}
use native.Mathlib.Omega.{arith}
use lib.Dec.{ltb}
use borrow.Author.Tests.{ltb-true, ltb-false}
use lib.ListN.{length, get_or, drop}
use lib.Ieee.{Float, binary32, sub, lt}
use Rattle.bits.specs.declared.Words3.{Words3}
use Rattle.math.specs.declared.vector.V3.{V3}
use Rattle.std.specs.Prelude.{Option}
use Rattle.std.specs.Prelude.{Some, None}
use Rattle.math.specs.SquareRoot.{root_of}
use Rattle.math.specs.Vector.{y_axis, vdot, vlen, unit_by, unit_of, one_f}
use Rattle.math.specs.Order.{magnitude}
use Rattle.lists.specs.Loops.{tab}
use Rattle.lists.proofs.Tabs.{length_tab, map_tab, tab_shift, tab_same}
use Rattle.lists.specs.Lists.{map_n, flat}
use Rattle.lists.specs.Parts.{spliced}
use Rattle.lists.proofs.Splices.{splice_start, splice_own, splice_front, put_out}
use Rattle.mesh.specs.Words.{words3, floats, bits, point_words}
use Rattle.mesh.specs.Mend.{visible, or_words, renorm, vertex_spot, first_normal, mend_by, mended}
use Rattle.mesh.specs.Mesh.{mesh_of}
use Rattle.lists.specs.Named.{named_by}
use Rattle.lists.proofs.Lists.{All_of, three_at, length_words, length_map_n}
use Rattle.lists.proofs.Totals.{map_n_tab}
use Rattle.mending.specs.Mend.{lent_frame, lent_key, lent_keys, mended_words, found, Firsts, Served, mended_at, Mends}
use Rattle.lists.proofs.Pieces.{length_from, pieces_then}
use Rattle.mending.proofs.Lent.{first_same, spot_in, spot_out}

-- ---- one vertex

-- the length, from its square
pub len_by : (n : V3) (l square : Float) → square ≡ vdot n n → l ≡ root_of square → l ≡ vlen n
unfolding vlen
len_by n l square es el = el ∙ ap root_of es

-- whose normal can be scaled: it is scaled where it is visibly off length 1, else kept; l is its length
pub mend_scaled : (w : Words3) (u other : V3) (l : Float) (off : Bool) → l ≡ vlen (floats w) → unit_by l (floats w) ≡ Some u
    → lt visible (magnitude (sub binary32 l one_f)) ≡ off → cond off (bits u) w ≡ mend_by (unit_of (floats w)) w other
unfolding mend_by renorm or_words unit_of
mend_scaled w u other l off el eu eo =
    let k : unit_of (floats w) ≡ Some u = ap (λ (l : Float). unit_by l (floats w)) (sym el) ∙ eu in
    ap (λ (t : Bool). cond t (bits u) w) (sym eo)
    ∙ ap (λ (l : Float). cond (lt visible (magnitude (sub binary32 l one_f))) (bits u) w) el
    ∙ ap (λ (q : (Option V3)). cond (lt visible (magnitude (sub binary32 (vlen (floats w)) one_f))) (or_words q w) w) (sym k)
    ∙ ap (λ (q : (Option V3)). mend_by q w other) (sym k)

-- whose normal cannot
pub mend_none : (w : Words3) (other : V3) (l : Float) → l ≡ vlen (floats w) → unit_by l (floats w) ≡ None → bits other ≡ mend_by (unit_of (floats w)) w other
unfolding mend_by unit_of
mend_none w other l el eu =
    let z : unit_of (floats w) ≡ None = ap (λ (l : Float). unit_by l (floats w)) (sym el) ∙ eu in
    ap (λ (q : (Option V3)). mend_by q w other) (sym z)

-- then it is what the table has
pub found_first : (ps is t : List ℕ) (count v k : ℕ) (o : V3) → v < length t → Firsts (lent_frame ps) (lent_keys [] count) is t → k ≡ get_or t v 0
    → o ≡ found (lent_frame ps) (lent_keys [] count) is (named_by k) y_axis → o ≡ first_normal (lent_frame ps) (lent_keys [] count) v is
unfolding Firsts
found_first ps is t count v k o h F ek eo = eo ∙ ap (λ (k : ℕ). found (lent_frame ps) (lent_keys [] count) is (named_by k) y_axis) ek ∙ F v h

-- ---- the table

module _ (ps is : List ℕ) (count : ℕ) (t : List ℕ) where
  pub none_made : Served false ps is count t
  unfolding Served
  none_made e = absurd (true≢false (sym e))

  pub all_made : Firsts (lent_frame ps) (lent_keys [] count) is t → Served true ps is count t
  unfolding Served
  all_made F e = F

  pub made_here : (made : Bool) → Served made ps is count t → made ≡ true → Firsts (lent_frame ps) (lent_keys [] count) is t
  unfolding Served
  made_here made S e = S e

-- ---- vertices, one after another

module _ (ps is : List ℕ) (count : ℕ) where
  -- the words of the mended normal of vertex v
  abbrev piece : List ℕ → ℕ → List ℕ
  piece ns v = words3 (mended_at ps is count ns v)

  pub mends_none : (ns : List ℕ) (v : ℕ) → Mends ps is count v 0 ns ns
  unfolding tab flat
  mends_none ns v = record { put = splice_start ns (v * 3) }

  -- w are the words of vertex v, r what is put there
  pub mends_one : {ns ns' : List ℕ} (v : ℕ) (w r : Words3) → w ≡ point_words ns v → r ≡ mend_by (unit_of (floats w)) w (first_normal (lent_frame ps) (lent_keys [] count) v is)
      → ns' ≡ spliced ns (v * 3) (words3 r) → Mends ps is count v 1 ns ns'
  unfolding mended_at tab flat
  mends_one {ns} v w r ew er e =
      let other = first_normal (lent_frame ps) (lent_keys [] count) v is in
      record { put = e ∙ ap (λ (x : Words3). spliced ns (v * 3) (words3 x)) (er ∙ ap (λ (x : Words3). mend_by (unit_of (floats x)) x other) ew) }

  -- they are kept
  pub mends_kept : {ns : List ℕ} (v : ℕ) (w : Words3) → v * 3 + 3 ≤ length ns → w ≡ point_words ns v
      → w ≡ mend_by (unit_of (floats w)) w (first_normal (lent_frame ps) (lent_keys [] count) v is) → Mends ps is count v 1 ns ns
  unfolding point_words
  mends_kept {ns} v w room ew er =
      mends_one v w w ew er (splice_own ns (v * 3) 3 room ∙ ap (spliced ns (v * 3)) (three_at 0 ns (v * 3) room ∙ ap words3 (sym ew)))

  -- the words of the vertices behind are as they were
  pub words_past : {ns ns' : List ℕ} (v n u : ℕ) → (v + n) * 3 ≤ length ns → v + n ≤ u → Mends ps is count v n ns ns' → point_words ns' u ≡ point_words ns u
  unfolding point_words
  words_past {ns} {ns'} v n u room b M =
      let same : (j : ℕ) → v * 3 + n * 3 ≤ j → get_or ns' j 0 ≡ get_or ns j 0 =
      λ j h. put_out ns (v * 3) (flat (tab (piece ns) n v)) M.put (length_from (piece ns) 3 (λ t. refl) n v) (omega arith) 0 j (inr h) in
      λ i. record { x = same (u * 3) (omega arith) i; y = same (u * 3 + 1) (omega arith) i; z = same (u * 3 + 2) (omega arith) i }

  -- n normals from v on, and then m behind them
  pub mends_then : {a b c : List ℕ} (v n m : ℕ) {u k : ℕ} → u ≡ v + n → k ≡ n + m → (u + m) * 3 ≤ length a → Mends ps is count v n a b → Mends ps is count u m b c
      → Mends ps is count v k a c
  unfolding mended_at
  mends_then {a} {b} v n m {u} e ek room M N =
      let same : (t : ℕ) → t < m → piece b (u + t) ≡ piece a (u + t) =
      λ t h. ap (λ (w : Words3). words3 (mend_by (unit_of (floats w)) w (first_normal (lent_frame ps) (lent_keys [] count) (u + t) is))) (words_past v n (u + t) (omega arith) (omega arith) M) in
      let q = N.put ∙ ap (λ (l : List (List ℕ)). spliced b (u * 3) (flat l)) (tab_shift (piece b) (piece a) m u u same) in
      record { put = pieces_then (piece a) 3 (λ t. refl) a (v * 3) v n m e (omega arith) (omega arith) M.put q ∙ ap (λ (i : ℕ). spliced a (v * 3) (flat (tab (piece a) i v))) (sym ek) }

  -- four, one after another
  pub mends_four : {a b c d e : List ℕ} (v : ℕ) → v * 3 + 12 ≤ length a → Mends ps is count v 1 a b → Mends ps is count (v + 1) 1 b c
      → Mends ps is count (v + 2) 1 c d → Mends ps is count (v + 3) 1 d e → Mends ps is count v 4 a e
  mends_four v room A B C D =
      mends_then v 3 1 refl refl (omega arith) (mends_then v 2 1 refl refl (omega arith) (mends_then v 1 1 refl refl (omega arith) A B) C) D

-- ---- all vertices

module _ (ps is ns₀ : List ℕ) (count : ℕ) where
  -- the mended normal of vertex v
  abbrev one : ℕ → Words3
  one v = mended (lent_frame ps) (lent_keys ns₀ count) is v (lent_key ns₀ v)

  -- the normals play no part in where a vertex lies
  first_lent : (v : ℕ) → first_normal (lent_frame ps) (lent_keys [] count) v is ≡ first_normal (lent_frame ps) (lent_keys ns₀ count) v is
  first_lent v = first_same (lent_frame ps) (lent_frame ps) (lent_keys [] count) (lent_keys ns₀ count) v is (All_of (λ (a : ℕ). go a (ltb a count) refl) is)
    where
      go : (a : ℕ) (b : Bool) → ltb a count ≡ b → vertex_spot (lent_frame ps) (lent_keys [] count) a ≡ vertex_spot (lent_frame ps) (lent_keys ns₀ count) a
      go a true e = let h = ltb-true a count e in spot_in ps [] count a h ∙ sym (spot_in ps ns₀ count a h)
      go a false e = let h = ltb-false a count e in spot_out ps [] count a h ∙ sym (spot_out ps ns₀ count a h)

  one_is : (v : ℕ) → words3 (mended_at ps is count ns₀ v) ≡ words3 (one v)
  unfolding mended_at mended lent_key
  one_is v = let w = point_words ns₀ v in ap (λ (n : V3). words3 (mend_by (unit_of (floats w)) w n)) (first_lent v)

  mended_tab : flat (tab (λ v. words3 (mended_at ps is count ns₀ v)) count 0) ≡ mended_words ps is ns₀ count
  unfolding mended_words mesh_of lent_keys
  mended_tab =
      ap flat
      (tab_same (λ v. words3 (mended_at ps is count ns₀ v)) (λ v. words3 (one v)) count (λ v h. one_is v)
      ∙ sym (map_tab one words3 count 0)
      ∙ ap (map words3) (sym (map_n_tab (mended (lent_frame ps) (lent_keys ns₀ count) is) (lent_key ns₀) count 0)))

  length_mended : length (mended_words ps is ns₀ count) ≡ 3 * count
  unfolding mended_words mesh_of lent_keys
  length_mended =
      length_words words3 3 (λ x. refl) (map_n (mended (lent_frame ps) (lent_keys ns₀ count) is) 0 (lent_keys ns₀ count))
      ∙ ap (λ (k : ℕ). 3 * k) (length_map_n (mended (lent_frame ps) (lent_keys ns₀ count) is) 0 (lent_keys ns₀ count) ∙ length_tab (lent_key ns₀) count 0)

  pub mends_all : {ns : List ℕ} → Mends ps is count 0 count ns₀ ns → ns ≡ mended_words ps is ns₀ count ++ drop (3 * count) ns₀
  mends_all M =
      let made = mended_words ps is ns₀ count in
      M.put ∙ ap (spliced ns₀ 0) mended_tab ∙ splice_front ns₀ made ∙ ap (λ (k : ℕ). made ++ drop k ns₀) length_mended
