-- The table of refusals: which number the conditions give, what a block has that is not refused, and how the table goes on. Assumes nothing.
use Prim.Native.Nat.{ℕ, suc, ◌*◌, ◌≤◌, ◌<◌}
use mathlib.Core.Path.{◌≡◌, refl, ap, sym, ◌∙◌}
use mathlib.Core.Bool.{Bool, true, false, not, cond}
use mathlib.Core.List.{List, [], ◌∷◌, ◌++◌}
use native.Mathlib.Omega.{arith}
use lib.Dec.{T, eqb}
use lib.ListN.{length, get_or}
use borrow.Author.Tests.{lt-ltb, le-ltb, eq-eqb, ne_eqb, ltb-false, eqb-true, not-false}
use Rattle.lists.proofs.Tests.{and_both}
use Rattle.lists.proofs.Below.{counts_within}
use Rattle.block.specs.Edition.{edition1, is_known, limit_of, highest, header_bytes}
use Rattle.block.specs.Kind.{is_primitives}
use Rattle.block.specs.Extents.{word_count}
use Rattle.lists.specs.Lists.{all_below}
use Rattle.block.proofs.EditionLaws.{limit_low}
use Rattle.block.specs.Refusal.{number_of, Row, row, is_over_limit, is_other_length, is_by_point, is_other_attributes, block_rows, first_of, Taken}
use Rattle.block.specs.declared.header.Header.{Header}
use Rattle.block.specs.declared.refusal.Refusal.{Refusal}
use Rattle.block.specs.declared.refusal.Refusal.TheVariants.{Stub, Edition, ZeroBits, ListLimit, Length, NoShape, Corners, Buffer, Attributes, Pairs}

-- ---- the number tells the answer
unfoldable answer_of : ℕ → Refusal
answer_of n =
    cond (eqb n 1) Stub
    (cond (eqb n 2) Edition
    (cond (eqb n 3) ZeroBits
    (cond (eqb n 4) ListLimit
    (cond (eqb n 5) Length
    (cond (eqb n 6) NoShape
    (cond (eqb n 7) Corners
    (cond (eqb n 8) Buffer
    (cond (eqb n 9) Attributes Pairs))))))))

answer_of_number : (a : Refusal) → answer_of (number_of a) ≡ a
unfolding answer_of
answer_of_number Stub = refl
answer_of_number Edition = refl
answer_of_number ZeroBits = refl
answer_of_number ListLimit = refl
answer_of_number Length = refl
answer_of_number NoShape = refl
answer_of_number Corners = refl
answer_of_number Buffer = refl
answer_of_number Attributes = refl
answer_of_number Pairs = refl

pub number_one_to_one : (a b : Refusal) → number_of a ≡ number_of b → a ≡ b
number_one_to_one a b e = sym (answer_of_number a) ∙ ap answer_of e ∙ answer_of_number b

-- no refusal has the number 0
pub number_some : (a : Refusal) → number_of a ≡ 0 → ⊥
number_some Stub z = omega arith
number_some Edition z = omega arith
number_some ZeroBits z = omega arith
number_some ListLimit z = omega arith
number_some Length z = omega arith
number_some NoShape z = omega arith
number_some Corners z = omega arith
number_some Buffer z = omega arith
number_some Attributes z = omega arith
number_some Pairs z = omega arith

-- ---- a row for each return
-- what the first three rows leave
pub record Known (bs : List ℕ) (h : Header) : Type 0 where
  pub whole : header_bytes edition1 ≤ length bs
  pub edition_is : is_known h.edition ≡ true
  pub zeros_are : h.zeros ≡ 0

module _ (bs : List ℕ) (h : Header) where
  pub row_stub : length bs < header_bytes edition1 → 1 ≡ first_of (block_rows bs h)
  unfolding block_rows first_of
  row_stub p = rw (lt-ltb _ (header_bytes edition1) p)

  module _ (p : header_bytes edition1 ≤ length bs) where
    pub row_edition : is_known h.edition ≡ false → 2 ≡ first_of (block_rows bs h)
    unfolding block_rows first_of
    row_edition q = rw (le-ltb _ (header_bytes edition1) p, q)

    pub row_zeros : is_known h.edition ≡ true → (h.zeros ≡ 0 → ⊥) → 3 ≡ first_of (block_rows bs h)
    unfolding block_rows first_of
    row_zeros q s = rw (le-ltb _ (header_bytes edition1) p, q, ne_eqb _ 0 s)

  module _ (k : Known bs h) where
    -- the rows from 4 on decide
    rest : first_of (block_rows bs h) ≡ first_of (row ListLimit (is_over_limit h) ∷ row Length (is_other_length bs h) ∷ row Attributes (is_other_attributes h) ∷ [])
    unfolding block_rows first_of
    rest = rw (le-ltb _ (header_bytes edition1) k.whole, k.edition_is, eq-eqb _ 0 k.zeros_are)

    pub row_limit : not (all_below (suc (limit_of h.edition)) h.counts) ≡ true → 4 ≡ first_of (block_rows bs h)
    unfolding first_of
    row_limit t = rw (rest, t)

    module _ (t : not (all_below (suc (limit_of h.edition)) h.counts) ≡ false) where
      pub row_length : (length bs ≡ 4 * word_count h → ⊥) → 5 ≡ first_of (block_rows bs h)
      unfolding first_of
      row_length u = rw (rest, t, ne_eqb _ _ u)

      pub row_attributes : length bs ≡ 4 * word_count h → is_other_attributes h ≡ true → 9 ≡ first_of (block_rows bs h)
      unfolding first_of
      row_attributes u v = rw (rest, t, eq-eqb _ _ u, v)

      pub row_none : length bs ≡ 4 * word_count h → is_other_attributes h ≡ false → 0 ≡ first_of (block_rows bs h)
      unfolding first_of
      row_none u v = rw (rest, t, eq-eqb _ _ u, v)

-- ---- the way back: where the number is 0 no condition holds
abbrev pub NoneOf : List Row → Type 0
NoneOf [] = Unit {0}
NoneOf (r ∷ rs) = (r.holds ≡ false) × NoneOf rs

pub none_of : (rs : List Row) → first_of rs ≡ 0 → NoneOf rs
unfolding first_of
none_of [] e = tt
none_of (r ∷ rs) e = go r.holds refl (λ z. none_of rs z) e
  where
    go : (b : Bool) → r.holds ≡ b → (first_of rs ≡ 0 → NoneOf rs) → cond b (number_of r.answer) (first_of rs) ≡ 0 → (r.holds ≡ false) × NoneOf rs
    go true q k z = absurd (number_some r.answer z)
    go false q k z = (q, k z)

pub taken_of : (bs : List ℕ) (h : Header) → first_of (block_rows bs h) ≡ 0 → Taken bs h
unfolding block_rows
taken_of bs h e =
    let a = none_of (block_rows bs h) e in
    record {
      whole = ltb-false (length bs) (header_bytes edition1) a.0;
      edition_is = not-false _ a.1.0;
      zeros_are = eqb-true _ _ (not-false _ a.1.1.0);
      counts_are = λ k. counts_within (limit_of h.edition) h.counts (not-false _ a.1.1.1.0) k;
      length_is = eqb-true _ _ (not-false _ a.1.1.1.1.0);
      attributes_are = a.1.1.1.1.1.0;
    }

-- no count of a block that is not refused is above the highest limit
pub count_low : {bs : List ℕ} {h : Header} → Taken bs h → (k : ℕ) → get_or h.counts k 0 ≤ highest
count_low {bs} {h} T k = omega (arith, T.counts_are k, limit_low h.edition)

-- ---- FORMAT 3, 9: the attributes of a triangle, fan, strip or quad set that is not refused
pub record ByPoint (h : Header) : Type 0 where
  pub colours : h.color_per_vertex ≡ true
  pub normals : h.normal_per_vertex ≡ true
  pub colour_index_lem : get_or h.counts 3 0 ≡ 0
  pub normal_index_lem : get_or h.counts 5 0 ≡ 0
  pub texture_index_lem : get_or h.counts 7 0 ≡ 0

pub by_point_lem : (h : Header) → is_primitives h.kind ≡ true → is_other_attributes h ≡ false → ByPoint h
by_point_lem h p e =
    let n : not (is_by_point h) ≡ false = rw p at e in
    let a = and_both h.color_per_vertex _ (not-false _ n) in
    let b = and_both h.normal_per_vertex _ a.1 in
    let c = and_both (eqb (get_or h.counts 3 0) 0) _ b.1 in
    let d = and_both (eqb (get_or h.counts 5 0) 0) _ c.1 in
    record {
      colours = a.0;
      normals = b.0;
      colour_index_lem = eqb-true _ _ c.0;
      normal_index_lem = eqb-true _ _ d.0;
      texture_index_lem = eqb-true _ _ d.1;
    }

-- ---- a table that goes on with ys
pub first_before : (xs ys : List Row) → (first_of xs ≡ 0 → ⊥) → first_of (xs ++ ys) ≡ first_of xs
unfolding first_of
first_before [] ys h = absurd (h refl)
first_before (x ∷ xs) ys h = go x.holds (λ k. first_before xs ys k) h
  where
    go : (b : Bool) → ((first_of xs ≡ 0 → ⊥) → first_of (xs ++ ys) ≡ first_of xs) → (cond b (number_of x.answer) (first_of xs) ≡ 0 → ⊥) → cond b (number_of x.answer) (first_of (xs ++ ys)) ≡ cond b (number_of x.answer) (first_of xs)
    go true f k = refl
    go false f k = f k

pub first_after : (xs ys : List Row) → first_of xs ≡ 0 → first_of (xs ++ ys) ≡ first_of ys
unfolding first_of
first_after [] ys h = refl
first_after (x ∷ xs) ys h = go x.holds (λ z. first_after xs ys z) h
  where
    go : (b : Bool) → (first_of xs ≡ 0 → first_of (xs ++ ys) ≡ first_of ys) → cond b (number_of x.answer) (first_of xs) ≡ 0 → cond b (number_of x.answer) (first_of (xs ++ ys)) ≡ first_of ys
    go true f z = absurd (number_some x.answer z)
    go false f z = f z
