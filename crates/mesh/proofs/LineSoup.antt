-- FORMAT 8.2: the vertices of a line set are those of a soup.
use Prim.Native.Nat.{ℕ, suc}
use mathlib.Core.Path.{◌≡◌, refl, ap}
use mathlib.Core.List.{List, [], ◌∷◌, ◌++◌, map}
use Rattle.bits.specs.Bits.{entries}
use Rattle.bits.specs.declared.Words4.{Words4}
use Rattle.block.specs.Runs.{Run, runs}
use Rattle.lists.specs.Lists.{map_n, join_n, firsts}
use Rattle.mesh.specs.Soup.{Face}
use Rattle.mesh.specs.Normals.{corner_normal}
use Rattle.mesh.specs.Vertices.{Key, same_key, key_of, keys_of, vertices}
use Rattle.mesh.specs.FaceSet.{Rest}
use Rattle.mesh.specs.Lines.{line_keys, line_vertices, corner_for, line_faces, line_frame}

module _ (missing : Words4) (R : Rest) (coord : List ℕ) where
  keys_of_lem : (fs : List Face) (num : ℕ) (ks : List Key) → keys_of (line_frame R) fs num (map corner_for ks) ≡ ks
  unfolding keys_of key_of corner_normal line_frame
  keys_of_lem fs num ks = go (map corner_for ks) ks
    where
      go : (f : Face) (ks : List Key) → map (key_of (line_frame R) fs num f) (map corner_for ks) ≡ ks
      go f [] = refl
      go f (k ∷ ks) = ap (λ (l : List Key). k ∷ l) (go f ks)

  keys_joined : (fs : List Face) (num : ℕ) (rs : List Run)
      → join_n (keys_of (line_frame R) fs) num (map_n (λ num r. map corner_for (line_keys missing R coord num r)) num rs) ≡ join_n (line_keys missing R coord) num rs
  unfolding join_n map_n
  keys_joined fs num [] = refl
  keys_joined fs num (r ∷ rs) = λ i. keys_of_lem fs num (line_keys missing R coord num r) i ++ keys_joined fs (suc num) rs i

  pub line_soup : vertices (line_frame R) (line_faces missing R coord) ≡ line_vertices missing R coord
  unfolding vertices line_vertices line_faces
  line_soup = ap (firsts same_key []) (keys_joined (line_faces missing R coord) 0 (runs (entries coord)))
