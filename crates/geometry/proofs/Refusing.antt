-- FORMAT 3: row 8 of the table and the whole table, and what a call has that none of its rows refuses.
use mathlib.Core.Path.{◌≡◌, refl, sym, ap, ◌∙◌}
use mathlib.Core.Bool.{Bool, false, cond}
use mathlib.Core.List.{List, [], ◌∷◌, ◌++◌}
use Prim.Native.Nat.{ℕ, zero, suc, ◌+◌, ◌*◌, ◌≤◌}
use native.Mathlib.Omega.{arith}
use borrow.Author.Tests.{ltb-false}
use lib.Dec.{ltb}
use lib.ListN.{length}
use Rattle.block.specs.Edition.{most}
use Rattle.block.specs.declared.header.Header.{Header}
use Rattle.block.specs.declared.settings.Settings.{Settings}
use Rattle.block.specs.declared.refusal.Refusal.TheVariants.{Buffer}
use Rattle.block.specs.Header.{header_of}
use Rattle.block.specs.Settings.{settings_of}
use Rattle.block.specs.Refusal.{Row, row, block_rows, first_of}
use Rattle.block.proofs.Table.{first_before, first_after}
use Rattle.mesh.specs.Sizes.{Sizes as Defined, sizes_of, shape_rows}
use Rattle.lent.specs.Lent.{Accepted, Enough, Asked}
use Rattle.lent.proofs.Accepts.{sizes_low}
use Rattle.sizes.specs.declared.kinds.Sizes.{Sizes}
use Rattle.sizes.specs.Known.{Counted}
use Rattle.sizes.proofs.Decided as seven
use Rattle.sizes.proofs.Decided.{accepted_of}
use Rattle.lists.proofs.Tests.{or_none, cond_none}
use Rattle.geometry.specs.declared.answer.Lengths.{Lengths}
use Rattle.geometry.specs.Answer.{is_short, rows, refusal}
use Rattle.geometry.specs.Converted.{Lending, lengths_of}

-- the sizes as the code returns them
abbrev pub sizes_in : Sizes → Defined
sizes_in r = record { points = r.points; corners = r.corners; indices = r.indices }

-- the header as the code reads it
pub rows_at : (bs : List ℕ) (h : Header) (n : ℕ) → h ≡ header_of bs → n ≡ seven.rows bs h → n ≡ seven.rows bs (header_of bs)
rows_at bs h n eh e = e ∙ ap (seven.rows bs) eh

-- ---- a block that the rows up to 7 let pass: n is their answer

module _ (bs : List ℕ) (n : ℕ) (e : n ≡ seven.rows bs (header_of bs)) (z : n ≡ 0) where
  accepted_by : Accepted bs (header_of bs) (settings_of bs)
  accepted_by = accepted_of bs (sym e ∙ z)

  -- h is its header, and r its sizes
  module _ (h : Header) (eh : h ≡ header_of bs) where
    module _ (r : Sizes) (A : Counted bs h r) where
      same_sizes : sizes_in r ≡ sizes_of bs (header_of bs)
      same_sizes = (λ i. record { points = A.points i; corners = A.corners i; indices = A.indices i }) ∙ ap (sizes_of bs) eh

      pub few : (r.points ≤ most) × (r.corners ≤ most)
      few =
          let p = ap (λ (z : Defined). z.points) same_sizes in
          let c = ap (λ (z : Defined). z.corners) same_sizes in
          let s = sizes_low accepted_by in
          (omega (arith, p, s), omega (arith, c, s))

-- ---- the rows up to 7, and then row 8

module _ (bs : List ℕ) (l : Lengths) (n : ℕ) (e : n ≡ seven.rows bs (header_of bs)) where
  abbrev before : List Row
  before = block_rows bs (header_of bs) ++ shape_rows bs (header_of bs)

  abbrev short : Bool
  short = is_short (sizes_of bs (header_of bs)) l

  eight : refusal bs l ≡ first_of (before ++ row Buffer short ∷ [])
  unfolding refusal rows
  eight = refl

  pub first_seven : (n ≡ 0 → ⊥) → n ≡ refusal bs l
  first_seven a = e ∙ sym (first_before before (row Buffer short ∷ []) (λ z. a (e ∙ z))) ∙ sym eight

  module _ (z : n ≡ 0) where
    by_eighth : cond short 8 0 ≡ refusal bs l
    unfolding first_of
    by_eighth = sym (eight ∙ first_after before (row Buffer short ∷ []) (sym e ∙ z))

    -- row 8 as it was answered
    pub row_eight : (h : Header) (eh : h ≡ header_of bs) (r : Sizes) (A : Counted bs h r) (b k : Bool) → b ≡ is_short (sizes_in r) l → b ≡ k → cond k 8 0 ≡ refusal bs l
    row_eight h eh r A b k eb q = ap (λ (k : Bool). cond k 8 0) (sym q ∙ eb ∙ ap (λ (z : Defined). is_short z l) (same_sizes bs n e z h eh r A)) ∙ by_eighth

-- ---- the way back

-- FORMAT 4: slices of which none is short are enough
pub short_none : (z : Defined) (l : Lending) → is_short z (lengths_of l) ≡ false → Enough z l.slices (length l.words) (length l.floats)
unfolding is_short lengths_of
short_none z l e =
    let a = or_none (ltb (length l.slices.positions) (3 * z.corners)) _ e in
    let b = or_none (ltb (length l.slices.normals) (3 * z.corners)) _ a.1 in
    let c = or_none (ltb (length l.slices.colours) (4 * z.corners)) _ b.1 in
    let d = or_none (ltb (length l.slices.textures) (2 * z.corners)) _ c.1 in
    let f = or_none (ltb (length l.slices.sources) z.corners) _ d.1 in
    let g = or_none (ltb (length l.slices.indices) z.indices) _ f.1 in
    let h = or_none (ltb (length l.words) (8 * (z.corners + z.points) + 8)) _ g.1 in
    record {
      positions = ltb-false _ _ a.0;
      normals = ltb-false _ _ b.0;
      colours = ltb-false _ _ c.0;
      textures = ltb-false _ _ d.0;
      sources = ltb-false _ _ f.0;
      indices = ltb-false _ _ g.0;
      words = ltb-false _ _ h.0;
      floats = ltb-false _ _ h.1;
    }

-- FORMAT 3, 4: a call that none of the rows refuses
pub asked_of : (bs : List ℕ) (l : Lending) → refusal bs (lengths_of l) ≡ 0
    → Asked (header_of bs).kind bs (header_of bs) (settings_of bs) l.slices (length l.words) (length l.floats)
asked_of bs l e = go (seven.rows bs (header_of bs)) refl
  where
    go : (n : ℕ) → n ≡ seven.rows bs (header_of bs) → Asked (header_of bs).kind bs (header_of bs) (settings_of bs) l.slices (length l.words) (length l.floats)
    go zero q =
        record {
          accepted = accepted_by bs 0 q refl;
          kind = refl;
          enough = short_none (sizes_of bs (header_of bs)) l (cond_none _ 7 (by_eighth bs (lengths_of l) 0 q refl ∙ e));
        }
    go (suc n) q = let z : suc n ≡ 0 = first_seven bs (lengths_of l) (suc n) q (λ (f : suc n ≡ 0). omega arith) ∙ e in absurd (omega arith)

-- h and s as the code reads them
pub asked_by : (bs : List ℕ) (l : Lending) (h : Header) (s : Settings) → h ≡ header_of bs → s ≡ settings_of bs → refusal bs (lengths_of l) ≡ 0
    → Asked h.kind bs h s l.slices (length l.words) (length l.floats)
asked_by bs l h s eh es e = rw (eh, es) (asked_of bs l e)
