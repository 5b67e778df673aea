-- The table of refusals: the number of each answer, and the conditions of the rows 1 to 5 and 9. FORMAT 3.
use Rattle.std.specs.Prelude.{ℕ, suc, ◌*◌, ◌≤◌, ◌≡◌, Bool, true, false, not, ◌&&◌, cond, List, [], ◌∷◌, eqb, ltb, length, get_or, Result, Ok, Err}
use Rattle.block.specs.Edition.{edition1, is_known, limit_of, header_bytes}
use Rattle.block.specs.Kind.{is_primitives}
use Rattle.block.specs.Extents.{word_count}
use Rattle.lists.specs.Lists.{all_below}
use Rattle.block.specs.declared.header.Header.{Header}
use Rattle.block.specs.declared.refusal.Refusal.{Refusal}
use Rattle.block.specs.declared.refusal.Refusal.TheVariants.{Stub, Edition, ZeroBits, ListLimit, Length, NoShape, Corners, Buffer, Attributes, Pairs}

-- FORMAT 3: the table's number of each refusal; the conditions 6 to 8 and 10 are of the shape, of the lent slices and of a part's pairs, and stand with those
abbrev pub number_of : Refusal → ℕ
number_of Stub = 1
number_of Edition = 2
number_of ZeroBits = 3
number_of ListLimit = 4
number_of Length = 5
number_of NoShape = 6
number_of Corners = 7
number_of Buffer = 8
number_of Attributes = 9
number_of Pairs = 10

-- FORMAT 3: the number of an answer: that of its refusal, and 0 where nothing is refused
abbrev pub refused_as : {A : Type 0} → Result A Refusal → ℕ
refused_as (Ok a) = 0
refused_as (Err refusal) = number_of refusal

-- FORMAT 3, 1, stub: fewer bytes than the header of edition 1
abbrev pub is_stub : List ℕ → Bool
is_stub bs = ltb (length bs) (header_bytes edition1)

-- FORMAT 3, 2, edition: edition is not 1
abbrev pub is_other_edition : Header → Bool
is_other_edition h = not (is_known h.edition)

-- FORMAT 3, 3, zero bits: one of them is set
abbrev pub is_other_zeros : Header → Bool
is_other_zeros h = not (eqb h.zeros 0)

-- FORMAT 3, 4, list limit: a count above the edition's limit
abbrev pub is_over_limit : Header → Bool
is_over_limit h = not (all_below (suc (limit_of h.edition)) h.counts)

-- FORMAT 3, 5, length: bytes do not end with the last word
abbrev pub is_other_length : List ℕ → Header → Bool
is_other_length bs h = not (eqb (length bs) (4 * word_count h))

-- FORMAT 7.1: whether each attribute is read at the point's own number: per vertex, and without an index list of its own
abbrev pub is_by_point : Header → Bool
is_by_point h = h.color_per_vertex && (h.normal_per_vertex && (eqb (get_or h.counts 3 0) 0 && (eqb (get_or h.counts 5 0) 0 && eqb (get_or h.counts 7 0) 0)))

-- FORMAT 3, 9, attributes: a triangle, fan, strip or quad set with a per-vertex bit cleared or an attribute index, whether the attribute is present or not
abbrev pub is_other_attributes : Header → Bool
is_other_attributes h = is_primitives h.kind && not (is_by_point h)

-- FORMAT 3: a row of the table: its answer, and whether its condition holds
pub record Row : Type 0 where
  pub answer : Refusal
  pub holds : Bool

abbrev pub row : Refusal → Bool → Row
row answer holds = record { answer = answer; holds = holds }

-- FORMAT 3: the rows that bytes and a header decide, in the order in which they are tested
unfoldable pub block_rows : List ℕ → Header → List Row
block_rows bs h = row Stub (is_stub bs) ∷ row Edition (is_other_edition h) ∷ row ZeroBits (is_other_zeros h) ∷ row ListLimit (is_over_limit h) ∷ row Length (is_other_length bs h) ∷ row Attributes (is_other_attributes h) ∷ []

-- FORMAT 3: the number of the first row that holds, 0 where none does
unfoldable pub first_of : List Row → ℕ
first_of [] = 0
first_of (r ∷ rs) = cond r.holds (number_of r.answer) (first_of rs)

-- what is known of a block where none of these holds
pub record Taken (bs : List ℕ) (h : Header) : Type 0 where
  pub whole : header_bytes edition1 ≤ length bs
  pub edition_is : is_known h.edition ≡ true
  pub zeros_are : h.zeros ≡ 0
  pub counts_are : (k : ℕ) → get_or h.counts k 0 ≤ limit_of h.edition
  pub length_is : length bs ≡ 4 * word_count h
  pub attributes_are : is_other_attributes h ≡ false
