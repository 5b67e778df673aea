-- FORMAT 10.3: what fix_zero_normals makes of a mesh's positions and normals is the mesh's mended normals.
use mathlib.Core.Path.{◌≡◌, refl, sym, ap, ◌∙◌, subst}
use mathlib.Core.List.{List, [], ◌∷◌, ◌++◌, map}
use Prim.Native.Nat.{ℕ, zero, suc, ◌+◌, ◌*◌, ◌<◌}
use native.Mathlib.Omega.{arith}
use lib.ListN.{length, get_or, drop, length-map}
use lib.Seq.{ext_get_or, drop_at}
use Rattle.bits.specs.declared.Words3.{Words3}
use Rattle.math.specs.Vector.{unit_of}
use Rattle.lists.specs.Loops.{All}
use Rattle.lists.proofs.Tabs.{length_tab}
use Rattle.lists.specs.Lists.{map_n, flat}
use Rattle.mesh.specs.Words.{words3, floats, point_words, no3}
use Rattle.mesh.specs.Soup.{Frame}
use Rattle.mesh.specs.Vertices.{Key, no_key}
use Rattle.mesh.specs.Mend.{vertex_spot, mend_by, mended}
use Rattle.mesh.specs.Mesh.{mesh_of}
use Rattle.lists.proofs.Lists.{All_map, get_or_map_lt, length_map_n, get_or_map_n, length_words}
use Rattle.mending.specs.Mend.{lent_frame, lent_key, lent_keys, mended_words}
use Rattle.mending.proofs.Lent.{floats_spot, key_at_lem, spot_in, first_same}

-- the words of vertex v, in a slice that begins with those of l
words_front : (l : List Words3) (r : List ℕ) (v : ℕ) (d : Words3) → v < length l → point_words (flat (map words3 l) ++ r) v ≡ get_or l v d
unfolding point_words flat
words_front [] r v d h = let z : ⊥ = omega arith in absurd z
words_front (x ∷ xs) r zero d h = refl
words_front (x ∷ xs) r (suc v) d h =
    let e0 : suc v * 3 ≡ suc (suc (suc (v * 3))) = omega arith in
    let e1 : suc v * 3 + 1 ≡ suc (suc (suc (v * 3 + 1))) = omega arith in
    let e2 : suc v * 3 + 2 ≡ suc (suc (suc (v * 3 + 2))) = omega arith in
    let l : List ℕ = x.x ∷ x.y ∷ x.z ∷ (flat (map words3 xs) ++ r) in
    (λ i. record { x = get_or l (e0 i) 0; y = get_or l (e1 i) 0; z = get_or l (e2 i) 0 }) ∙ words_front xs r v d (omega arith)

-- the words of f at vertex v, in a slice that begins with those of all vertices
map_front : (f : Key → Words3) (vs : List Key) (l r : List ℕ) (v : ℕ) → l ≡ flat (map words3 (map f vs)) ++ r → v < length vs
    → point_words l v ≡ f (get_or vs v no_key)
map_front f vs l r v e h =
    ap (λ (m : List ℕ). point_words m v) e
    ∙ words_front (map f vs) r v no3 (subst (λ (n : ℕ). v < n) (sym (length-map vs f)) h)
    ∙ get_or_map_lt f vs v no3 no_key h

-- a mesh's positions and normals are lent, with p and r after them; its indices name its vertices
module _ (F : Frame) (vs : List Key) (is ps ns p r : List ℕ)
    (placed : ps ≡ flat (map words3 (mesh_of F vs is).positions) ++ p)
    (given : ns ≡ flat (map words3 (map (λ (k : Key). k.normal) vs)) ++ r)
    (within : All (λ (a : ℕ). a < length vs) is) where
  abbrev lent : List Key
  lent = lent_keys ns (length vs)

  length_lent : length lent ≡ length vs
  unfolding lent_keys
  length_lent = length_tab (lent_key ns) (length vs) 0

  spot_is : (v : ℕ) → v < length vs → vertex_spot (lent_frame ps) lent v ≡ vertex_spot F vs v
  unfolding mesh_of vertex_spot
  spot_is v h =
      let point : Key → Words3 = λ k. point_words F.points k.point in
      spot_in ps ns (length vs) v h ∙ ap floats (map_front point vs ps p v placed h) ∙ floats_spot F.points (get_or vs v no_key).point

  normal_is : (v : ℕ) → v < length vs → (get_or lent v no_key).normal ≡ (get_or vs v no_key).normal
  unfolding lent_key
  normal_is v h = ap (λ (k : Key). k.normal) (key_at_lem ps ns (length vs) v h) ∙ map_front (λ (k : Key). k.normal) vs ns r v given h

  normals_is : map_n (mended (lent_frame ps) lent is) 0 lent ≡ map_n (mended F vs is) 0 vs
  unfolding mended
  normals_is =
      let f = mended (lent_frame ps) lent is in
      let g = mended F vs is in
      let spots = All_map {Q = λ (a : ℕ). vertex_spot (lent_frame ps) lent a ≡ vertex_spot F vs a} (λ (a : ℕ) (h : a < length vs). spot_is a h) is within in
      let long : length (map_n f 0 lent) ≡ length vs = length_map_n f 0 lent ∙ length_lent in
      ext_get_or no3 (map_n f 0 lent) (map_n g 0 vs) (long ∙ sym (length_map_n g 0 vs))
      (λ (v : ℕ) (b : v < length (map_n f 0 lent)).
      let h : v < length vs = subst (λ (n : ℕ). v < n) long b in
      let h' : v < length lent = subst (λ (n : ℕ). v < n) (sym length_lent) h in
      let first = first_same (lent_frame ps) F lent vs (0 + v) is spots in
      get_or_map_n f 0 lent v no3 no_key h'
      ∙ (λ i. mend_by (unit_of (floats (normal_is v h i))) (normal_is v h i) (first i))
      ∙ sym (get_or_map_n g 0 vs v no3 no_key h))

  pub mended_words_lem : mended_words ps is ns (length vs) ≡ flat (map words3 (mesh_of F vs is).normals)
  unfolding mended_words mesh_of
  mended_words_lem = ap (λ (l : List Words3). flat (map words3 l)) normals_is

  -- as the function's contract has it: the mended normals, then what was there
  pub mended_slice : (count : ℕ) (out : List ℕ) → count ≡ length vs → out ≡ mended_words ps is ns count ++ drop (3 * count) ns
      → out ≡ flat (map words3 (mesh_of F vs is).normals) ++ r
  mended_slice count out n e =
      let front : List ℕ = flat (map words3 (map (λ (k : Key). k.normal) vs)) in
      let long : length front ≡ 3 * length vs =
      length_words words3 3 (λ w. refl) (map (λ (k : Key). k.normal) vs) ∙ ap (λ (m : ℕ). 3 * m) (length-map vs (λ (k : Key). k.normal)) in
      e ∙ ap (λ (m : ℕ). mended_words ps is ns m ++ drop (3 * m) ns) n
      ∙ (λ i. mended_words_lem i ++ (ap (drop (3 * length vs)) given ∙ drop_at front r (3 * length vs) long) i)
