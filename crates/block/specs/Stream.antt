-- Which value of an attribute a corner reads. FORMAT 7.1.
use Rattle.std.specs.Prelude.{ℕ, ◌+◌, ◌-◌, ◌^◌, ◌<◌, ◌≡◌, Bool, false, cond, List, [], ◌∷◌, eqb, leb, ltb, ℤ, pos, negsuc, length, get_or, slice_get, take, drop, Option, Some, None}
use Rattle.lists.specs.Loops.{tab}
use Rattle.bits.specs.Bits.{entries}
use Rattle.bits.specs.declared.Words2.{Words2}
use Rattle.bits.specs.declared.Words3.{Words3}
use Rattle.bits.specs.declared.Words4.{Words4}
use Rattle.block.specs.Kind.{is_indexed}
use Rattle.block.specs.declared.kind.Kind.{Kind}
use Rattle.block.specs.declared.stream.Stream.{Stream}
use Rattle.block.specs.declared.header.Header.{Header}
use Rattle.block.specs.Extents.{place_of}
use Rattle.block.specs.Value.{count_of, words2, words3, value_at, value4_at}

-- FORMAT 2.4: only sets have index lists
abbrev pub index_bytes : Kind → ℕ → ℕ
index_bytes kind len = cond (is_indexed kind) len 0

-- FORMAT 2.4: the attribute whose values are list k, and whose own index list is the next one
unfoldable pub stream_of : Header → Bool → ℕ → Stream
stream_of h per_vertex k =
    record {
      per_vertex = per_vertex;
      values = place_of h k;
      index = record { at = (place_of h (k + 1)).at; len = index_bytes h.kind (place_of h (k + 1)).len };
    }

-- a word whose top bit is set is a negative number
unfoldable pub is_negative : ℕ → Bool
is_negative w = leb 0x8000_0000 w

-- FORMAT 7.1: the attribute's own index list or, where that is empty, coordIndex
unfoldable pub chosen : List ℕ → List ℕ → List ℕ
chosen own coord = cond (eqb (length (entries own)) 0) coord own

-- the number k, where a u32 holds it: no list of values is longer
unfoldable pub itself : ℕ → Option ℕ
itself k = cond (ltb k (2 ^ 32)) (Some k) None

-- entry k, where there is one and it is not negative
unfoldable pub entry_at : List ℕ → ℕ → Option ℕ
entry_at ws k = cond (ltb k (length ws)) (cond (is_negative (get_or ws k 0)) None (Some (get_or ws k 0))) None

-- FORMAT 7.1: the number at place k of a list or, where the list is empty, k itself
unfoldable pub number_in : List ℕ → ℕ → Option ℕ
number_in list k = cond (eqb (length (entries list)) 0) (itself k) (entry_at (entries list) k)

-- FORMAT 7.1: the number of the value that a corner reads, by its place in coordIndex or by its face
unfoldable pub number_at : List ℕ → List ℕ → Bool → ℕ → ℕ → Option ℕ
number_at own coord per_vertex place face = cond per_vertex (number_in (chosen own coord) place) (number_in own face)

-- the bytes of the attribute's values, and of its own index list
abbrev pub values_in : List ℕ → Stream → List ℕ
values_in bs s = take s.values.len (drop s.values.at bs)

abbrev pub index_in : List ℕ → Stream → List ℕ
index_in bs s = take s.index.len (drop s.index.at bs)

-- FORMAT 7.1: the number that a corner reads in a block
abbrev pub found_at : List ℕ → List ℕ → Stream → ℕ → ℕ → Option ℕ
found_at bs coord s place face = number_at (index_in bs s) coord s.per_vertex place face

-- FORMAT 7.1 and 7.2: the value that a corner reads, of w words, made by `made`
abbrev pub get_at : {A : Type 0} → (List ℕ → ℕ → A) → ℕ → List ℕ → List ℕ → Stream → ℕ → ℕ → A → A
get_at made w bs coord s place face missing = value_at (made (values_in bs s)) w (values_in bs s) (found_at bs coord s place face) missing

abbrev pub get2_at : List ℕ → List ℕ → Stream → ℕ → ℕ → Words2 → Words2
get2_at bs coord s place face missing = get_at words2 2 bs coord s place face missing

abbrev pub get3_at : List ℕ → List ℕ → Stream → ℕ → ℕ → Words3 → Words3
get3_at bs coord s place face missing = get_at words3 3 bs coord s place face missing

abbrev pub get4_at : List ℕ → List ℕ → Stream → Bool → ℕ → ℕ → Words4 → Words4
get4_at bs coord s alpha place face missing = value4_at (values_in bs s) alpha (found_at bs coord s place face) missing

-- ---- Stream::get as the source writes it, with values of any type

-- `as i64` of an i32, by its word
unfoldable pub signed : ℕ → ℤ
signed w = cond (leb 0x8000_0000 w) (negsuc (0xffff_ffff - w)) (pos w)

-- *index.get(k)? as i64
abbrev pub index_get : Option ℕ → Option ℤ
index_get None = None
index_get (Some w) = Some (signed w)

-- entry k of the index list or, where that is empty, the number in hand
abbrev pub through : List ℕ → ℕ → ℕ → Option ℤ
through [] k n = Some (pos n)
through (w ∷ ws) k n = index_get (slice_get (w ∷ ws) k)

-- idx of Stream::get; `as i64` keeps a face number, which is below 2 ^ 63
unfoldable pub stream_index : List ℕ → Bool → ℕ → ℕ → ℕ → Option ℤ
stream_index index per_vertex k face coord = cond per_vertex (through index k coord) (through index face face)

-- idx as the number of a value
abbrev pub found_of : Option ℤ → Option ℕ
found_of None = None
found_of (Some (negsuc n)) = None
found_of (Some (pos n)) = itself n

-- values.get(idx), and none where idx is negative
abbrev pub value_get : {A : Type 0} → List A → Option ℤ → Option A
value_get values None = None
value_get values (Some (negsuc n)) = None
value_get values (Some (pos n)) = slice_get values n

-- Stream::get: k is the place in coordIndex, and coord the entry there
unfoldable pub stream_get : {A : Type 0} → List A → List ℕ → Bool → ℕ → ℕ → ℕ → Option A
stream_get values index per_vertex k face coord = value_get values (stream_index index per_vertex k face coord)

-- the values of w words in a list of bytes
abbrev pub values_of : {A : Type 0} → (ℕ → A) → ℕ → List ℕ → List A
values_of made w values = tab made (count_of w values) 0

-- unwrap_or
abbrev pub or_else : {A : Type 0} → Option A → A → A
or_else None missing = missing
or_else (Some a) missing = a

-- the place and the point of a corner: coordIndex names the point at the place or, where there is no coordIndex (a grid), the place is the point's number
pub data Corner (coord : List ℕ) (place point : ℕ) : Type 0 where
  indexed : place < length (entries coord) → get_or (entries coord) place 0 ≡ point → is_negative point ≡ false → Corner coord place point
  bare : entries coord ≡ [] → place ≡ point → Corner coord place point
