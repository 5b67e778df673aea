-- FORMAT 3: the rows 6 and 7 of the table, a row for each return; and what a block has that the rows up to 7 let pass.
use mathlib.Core.Path.{◌≡◌, refl, sym, subst, ◌∙◌}
use mathlib.Core.Bool.{true, false}
use mathlib.Core.List.{List, ◌++◌}
use Prim.Native.Nat.{ℕ, zero, suc, ◌≤◌, ◌<◌}
use native.Mathlib.Omega.{arith}
use borrow.Author.Tests.{lt-ltb, le-ltb}
use Rattle.block.specs.declared.header.Header.{Header}
use Rattle.block.specs.declared.refusal.Refusal.{Refusal}
use Rattle.block.specs.Header.{header_of}
use Rattle.block.specs.Settings.{settings_of}
use Rattle.block.specs.Edition.{limit_of}
use Rattle.block.specs.Refusal.{number_of, Taken, block_rows, first_of}
use Rattle.block.proofs.Table.{none_of, taken_of, first_before, first_after}
use Rattle.mesh.specs.Sizes.{sizes_of, is_no_shape, is_over_corners, shape_rows}
use Rattle.lent.specs.Lent.{Accepted}
use Rattle.sizes.specs.declared.kinds.Sizes.{Sizes}
use Rattle.std.specs.Prelude.{Result, Ok, Err}
use Rattle.sizes.specs.Judged.{Judged}
use Rattle.sizes.specs.Known.{Counted}

-- ---- the rows 6 and 7

module _ (bs : List ℕ) (h : Header) where
  pub row_shape : is_no_shape h ≡ true → 6 ≡ first_of (shape_rows bs h)
  unfolding shape_rows first_of
  row_shape e = rw e

  -- w is the limit, and r the sizes
  module _ (e : is_no_shape h ≡ false) (r : Sizes) (A : Counted bs h r) (w : ℕ) (q : w ≡ limit_of h.edition) where
    pub row_points : w < r.points → 7 ≡ first_of (shape_rows bs h)
    unfolding shape_rows first_of is_over_corners
    row_points a = let l : limit_of h.edition < (sizes_of bs h).points = rw (← q, ← A.points) a in rw (e, lt-ltb _ _ l)

    module _ (p : r.points ≤ w) where
      few : (sizes_of bs h).points ≤ limit_of h.edition
      few = rw (← q, ← A.points) p

      pub row_corners : w < r.corners → 7 ≡ first_of (shape_rows bs h)
      unfolding shape_rows first_of is_over_corners
      row_corners a = let l : limit_of h.edition < (sizes_of bs h).corners = rw (← q, ← A.corners) a in rw (e, le-ltb _ _ few, lt-ltb _ _ l)

      pub row_none : r.corners ≤ w → 0 ≡ first_of (shape_rows bs h)
      unfolding shape_rows first_of is_over_corners
      row_none a = let l : (sizes_of bs h).corners ≤ limit_of h.edition = rw (← q, ← A.corners) a in rw (e, le-ltb _ _ few, le-ltb _ _ l)

-- ---- verdicts

module _ (bs : List ℕ) (h : Header) (n : ℕ) where
  pub refuse : (a : Refusal) → number_of a ≡ n → Judged bs h n (Err a)
  unfolding Judged
  refuse a e = e

  pub pass : (s : Sizes) → n ≡ 0 → Counted bs h s → Judged bs h n (Ok s)
  unfolding Judged
  pass s e A = (e, A)

  -- a verdict v that is read
  module _ (v : Result Sizes Refusal) (J : Judged bs h n v) where
    pub refused_is : (a : Refusal) → v ≡ Err a → number_of a ≡ n
    unfolding Judged
    refused_is a e = rw e at J

    pub passed_is : (s : Sizes) → v ≡ Ok s → (n ≡ 0) × Counted bs h s
    unfolding Judged
    passed_is s e = rw e at J

    pub judged_at : (m : ℕ) → n ≡ m → Judged bs h m v
    judged_at m e = subst (λ (k : ℕ). Judged bs h k v) e J

-- ---- all rows up to 7

module _ (bs : List ℕ) (h : Header) where
  -- the contract's answer
  abbrev pub rows : ℕ
  rows = first_of (block_rows bs h ++ shape_rows bs h)

  -- n is the answer of the block's rows, and m that of the others
  module _ (n : ℕ) (e : n ≡ first_of (block_rows bs h)) where
    pub block_rows_lem : (n ≡ 0 → ⊥) → n ≡ rows
    block_rows_lem a = e ∙ sym (first_before (block_rows bs h) (shape_rows bs h) (λ z. a (e ∙ z)))

    module _ (z : n ≡ 0) where
      pub taken_by : Taken bs h
      taken_by = taken_of bs h (sym e ∙ z)

      pub shape_rows_lem : (m : ℕ) → m ≡ first_of (shape_rows bs h) → m ≡ rows
      shape_rows_lem m em = em ∙ sym (first_after (block_rows bs h) (shape_rows bs h) (sym e ∙ z))

-- ---- the way back

-- FORMAT 3: a block that none of the rows up to 7 refuses is accepted
pub accepted_of : (bs : List ℕ) → rows bs (header_of bs) ≡ 0 → Accepted bs (header_of bs) (settings_of bs)
unfolding shape_rows
accepted_of bs e = go (first_of (block_rows bs (header_of bs))) refl
  where
    go : (n : ℕ) → first_of (block_rows bs (header_of bs)) ≡ n → Accepted bs (header_of bs) (settings_of bs)
    go zero z =
        let s = none_of (shape_rows bs (header_of bs)) (shape_rows_lem bs (header_of bs) 0 (sym z) refl _ refl ∙ e) in
        record { header = refl; settings = refl; taken = taken_of bs (header_of bs) z; shape = s.0; corners = s.1.0 }
    go (suc n) z = let q : suc n ≡ 0 = block_rows_lem bs (header_of bs) (suc n) (sym z) (λ (f : suc n ≡ 0). omega arith) ∙ e in absurd (omega arith)
