-- FORMAT 11: the keys of vertices and of a corner as the slices hold them, the number of a key among the vertices, and the chains of the search.
use Rattle.std.specs.Prelude.{◌≡◌, Bool, cond, List, Option, Some, None, ℕ, zero, suc, ◌+◌, ◌*◌, ◌<◌, eqb, get_or}
use Rattle.std.specs.Option.{option_map}
use Rattle.bits.specs.declared.Words2.{Words2}
use Rattle.bits.specs.declared.Words3.{Words3}
use Rattle.bits.specs.declared.Words4.{Words4}
use Rattle.block.specs.declared.number.VertexNumber.{VertexNumber}
use Rattle.mesh.specs.Vertices.{Key, same_key}
use Rattle.vertices.specs.declared.places.Widths.{Widths}
use Rattle.vertices.specs.declared.places.Chains.{Chains}
use Rattle.lists.specs.Parts.{seg}
use Rattle.lists.specs.Named.{named_by}
use Rattle.vertices.specs.Places.{colour_start, texture_start, Store}
use Rattle.vertices.specs.Hash.{bucket_of}

-- FORMAT 11, PolyMesh::build (key): the words of a row, and zeros where the row has none
abbrev pub two : List ℕ → Words2
two l = record { s = get_or l 0 0; t = get_or l 1 0 }

abbrev pub three : List ℕ → Words3
three l = record { x = get_or l 0 0; y = get_or l 1 0; z = get_or l 2 0 }

abbrev pub four : List ℕ → Words4
four l = record { r = get_or l 0 0; g = get_or l 1 0; b = get_or l 2 0; a = get_or l 3 0 }

-- vertex i, as the slices hold it
unfoldable pub key_at : Widths → Store → ℕ → Key
key_at w s i =
    record {
      point = get_or s.sources i 0;
      normal = three (seg s.normals (w.normal * i) w.normal);
      colour = four (seg s.colours (w.colour * i) w.colour);
      texture = two (seg s.textures (w.texture * i) w.texture);
    }

-- FORMAT 11, VertexKey: a corner at point v, by the words of its key
unfoldable pub corner_key : Widths → ℕ → List ℕ → Key
corner_key w v l =
    record { point = v; normal = three (seg l 0 w.normal); colour = four (seg l colour_start w.colour); texture = two (seg l texture_start w.texture) }

-- the vertex that a word of a chain names
abbrev pub known_by : ℕ → Option VertexNumber
known_by word = option_map (λ i. record { 0 = i }) (named_by word)

-- the greatest number below n that passes the test
unfoldable pub seek : (ℕ → Bool) → ℕ → Option VertexNumber
seek p zero = None
seek p (suc n) = let r = seek p n in cond (p n) (Some (record { 0 = n })) r

-- FORMAT 11: the vertex among the first n that has key k
unfoldable pub place_of : Widths → Store → ℕ → Key → Option VertexNumber
place_of w s n k = seek (λ i. same_key k (key_at w s i)) n

-- the bucket of vertex i
unfoldable pub bucket_at : Widths → Chains → Store → ℕ → ℕ
bucket_at w t s i = bucket_of t.buckets (key_at w s i)

-- the last of the first n vertices that is in bucket b, where vertex i is in bucket f i
unfoldable pub last_at : (ℕ → ℕ) → ℕ → ℕ → Option VertexNumber
last_at f n b = seek (λ i. eqb b (f i)) n

-- of each bucket the last of the n vertices in it, and of each vertex the last before it in the same bucket
pub record Chained (t : Chains) (f : ℕ → ℕ) (m : List ℕ) (n : ℕ) : Type 0 where
  pub heads : (b : ℕ) → b < t.buckets → known_by (get_or m (t.heads + b) 0) ≡ last_at f n b
  pub nexts : (i : ℕ) → i < n → known_by (get_or m (t.nexts + i) 0) ≡ last_at f i (f i)
