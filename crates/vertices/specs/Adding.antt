-- FORMAT 5, 11: one vertex more in the slices, and what the slices hold of a list of keys.
use Rattle.std.specs.Prelude.{◌≡◌, cond, List, [], ◌++◌, map, ℕ, suc, ◌+◌, ◌*◌, ◌≤◌, ◌<◌, eqb, length, get_or, set, take, drop}
use Rattle.lists.specs.Loops.{tab, All}
use Rattle.lists.specs.Lists.{place, meet, firsts, flat}
use Rattle.mesh.specs.Words.{words3, point_words}
use Rattle.mesh.specs.Vertices.{Key, same_key}
use Rattle.vertices.specs.declared.places.Widths.{Widths}
use Rattle.vertices.specs.declared.places.Chains.{Chains}
use Rattle.lists.specs.Parts.{seg, spliced}
use Rattle.vertices.specs.Places.{colour_start, texture_start, key_words, Store, Room}
use Rattle.vertices.specs.Hash.{normal_of, colour_of, texture_of}
use Rattle.vertices.specs.Search.{two, three, four, bucket_at, Chained}

-- the table with vertex n last in the chain of bucket b
unfoldable pub linked : Chains → List ℕ → ℕ → ℕ → List ℕ
linked t m n b = set (set m (t.nexts + n) (get_or m (t.heads + b) 0)) (t.heads + b) (n + 1)

-- one row more in each slice: vertex n, of point v, in bucket b, with the words l of a corner's key
pub record Appended (w : Widths) (t : Chains) (n v b : ℕ) (l : List ℕ) (s : Store) (m : List ℕ) (s' : Store) (m' : List ℕ) : Type 0 where
  pub sources : s'.sources ≡ set s.sources n v
  pub positions : s'.positions ≡ spliced s.positions (3 * n) (seg m (t.points + 3 * v) 3)
  pub normals : s'.normals ≡ spliced s.normals (w.normal * n) (seg l 0 w.normal)
  pub colours : s'.colours ≡ spliced s.colours (w.colour * n) (seg l colour_start w.colour)
  pub textures : s'.textures ≡ spliced s.textures (w.texture * n) (seg l texture_start w.texture)
  pub table : m' ≡ linked t m n b

-- FORMAT 5: the words of a vertex among the positions
unfoldable pub position_of : List ℕ → Key → List ℕ
position_of pts k = words3 (point_words pts k.point)

-- FORMAT 11: a key with zeros for the attributes that are not made
unfoldable pub trimmed : Widths → Key → Key
trimmed w k = record { point = k.point; normal = three (normal_of w k); colour = four (colour_of w k); texture = two (texture_of w k) }

-- FORMAT 5: the slices s hold the vertices ks, and beyond them what z holds; each vertex has its own number
pub record Holds (w : Widths) (pts : List ℕ) (z : Store) (s : Store) (ks : List Key) : Type 0 where
  pub sources : s.sources ≡ map (λ (k : Key). k.point) ks ++ drop (length ks) z.sources
  pub positions : s.positions ≡ flat (map (position_of pts) ks) ++ drop (3 * length ks) z.positions
  pub normals : s.normals ≡ flat (map (normal_of w) ks) ++ drop (w.normal * length ks) z.normals
  pub colours : s.colours ≡ flat (map (colour_of w) ks) ++ drop (w.colour * length ks) z.colours
  pub textures : s.textures ≡ flat (map (texture_of w) ks) ++ drop (w.texture * length ks) z.textures
  pub trim : All (λ (k : Key). trimmed w k ≡ k) ks
  pub distinct : (i : ℕ) (d : Key) → i < length ks → place same_key (get_or ks i d) ks ≡ i

-- FORMAT 11, PolyMesh::build (dedup): the vertices of the first c corners, corner i with key f i
unfoldable pub made_of : (ℕ → Key) → ℕ → List Key
made_of f c = firsts same_key [] (tab f c 0)

-- FORMAT 2.4: the points' words in the working slice
unfoldable pub points_in : Chains → List ℕ → List ℕ
points_in t m = seg m t.points (3 * t.spots)

-- there were n vertices, and a corner's vertex got number r: how many there are then
unfoldable pub count_after : ℕ → ℕ → ℕ
count_after n r = cond (eqb r n) (suc n) n

-- the slices s hold n vertices
pub record Held (w : Widths) (pts : List ℕ) (s : Store) (n : ℕ) : Type 0 where
  pub beyond : Store
  pub keys : List Key
  pub count : length keys ≡ n
  pub holds : Holds w pts beyond s keys

-- n vertices are held, with their chains, there is room for one more, and a corner is at point v with the words l of its key
pub record Ready (w : Widths) (t : Chains) (s : Store) (m : List ℕ) (n v : ℕ) (l : List ℕ) : Type 0 where
  pub room : Room w t s m (n + 1)
  pub held : Held w (points_in t m) s n
  pub chained : Chained t (bucket_at w t s) m n
  pub point : v < t.spots
  pub words : key_words ≤ length l

-- FORMAT 11, PolyMesh::build (or_insert_with): a corner's key k has number r. Whatever n vertices the slices held, they then hold these and k, if it is new.
-- The words below the heads are as they were.
pub record Vertexed (w : Widths) (t : Chains) (n : ℕ) (k : Key) (s : Store) (m : List ℕ) (s' : Store) (m' : List ℕ) (r : ℕ) : Type 0 where
  pub number : (z : Store) (ks : List Key) → Holds w (points_in t m) z s ks → length ks ≡ n → r ≡ place same_key k (meet same_key ks k)
  pub holds : (z : Store) (ks : List Key) → Holds w (points_in t m) z s ks → length ks ≡ n
      → Holds w (points_in t m) z s' (meet same_key ks k)
  pub chained : Chained t (bucket_at w t s') m' (count_after n r)
  pub front : take t.heads m' ≡ take t.heads m
  pub len : length m' ≡ length m
