-- A face with no corners adds nothing: the mesh is that of the kept faces alone, numbered without gaps, as PolyMesh has them.
use mathlib.Core.Path.{◌≡◌, refl, sym, ap, ◌∙◌}
use mathlib.Core.Logic.{◌≢◌}
use mathlib.Core.Bool.{Bool, true, false, cond}
use mathlib.Core.List.{List, [], ◌∷◌, ◌++◌, map, map-append, append_assoc}
use Prim.Native.Nat.{ℕ, suc, ◌+◌, ◌≤◌, ◌<◌}
use native.Mathlib.Nat.{zero-add}
use native.Mathlib.Omega.{arith}
use lib.Dec.{eqb}
use lib.Ieee.{Float}
use lib.ListN.{length, get_or, length-append}
use Rattle.math.specs.declared.vector.V3.{V3}
use Rattle.std.specs.Prelude.{Option}
use Rattle.std.specs.Prelude.{Some, None}
use Rattle.math.specs.Vector.{v3, zero_f, y_axis, vadd, unit_of}
use Rattle.block.specs.declared.crease.CreaseRule.{CreaseRule}
use Rattle.block.specs.declared.crease.CreaseRule.TheVariants.{Own, Every, Bound}
use Rattle.lists.specs.Loops.{All}
use Rattle.lists.specs.Lists.{join_n, firsts, place}
use Rattle.mesh.specs.Words.{bits}
use Rattle.mesh.specs.Soup.{Corner, Face, dense, Frame}
use Rattle.mesh.specs.Normals.{facing, Hit, hits, hits_of, incident, sum_all, is_near, sum_near, near_sum, crease_sum, or_else, generated, corner_normal}
use Rattle.mesh.specs.Vertices.{Key, no_key, same_key, key_of, keys_of, vertices, locals, face_indices, indices_of, width}
use Rattle.mesh.specs.Mesh.{mesh_of, mesh}
use Rattle.lists.proofs.Lists.{All_map, All_append, join_n_append, no_elements}
use Rattle.mesh.proofs.Sums.{near_append, step_own, step_other}
use Rattle.mesh.proofs.Corners.{length_locals}

dense_append : (l m : List Face) → dense (l ++ m) ≡ dense l ++ dense m
unfolding dense
dense_append [] m = refl
dense_append ([] ∷ l) m = dense_append l m
dense_append ((c ∷ cs) ∷ l) m = ap (λ (t : List Face). (c ∷ cs) ∷ t) (dense_append l m)

-- ---- the normals at a point, without numbers

abbrev copies : ℕ → V3 → Face → List V3
copies p n [] = []
copies p n (c ∷ cs) = cond (eqb c.gather p) (n ∷ copies p n cs) (copies p n cs)

copies_hits : (p : ℕ) (h : Hit) (g : Face) → map (λ (h : Hit). h.normal) (hits p h g) ≡ copies p h.normal g
unfolding hits
copies_hits p h [] = refl
copies_hits p h (c ∷ cs) = go (eqb c.gather p) (copies_hits p h cs)
  where
    go : (b : Bool) → map (λ (h : Hit). h.normal) (hits p h cs) ≡ copies p h.normal cs
        → map (λ (h : Hit). h.normal) (cond b (h ∷ hits p h cs) (hits p h cs)) ≡ cond b (h.normal ∷ copies p h.normal cs) (copies p h.normal cs)
    go true e = ap (λ (t : List V3). h.normal ∷ t) e
    go false e = e

hits_face : (p : ℕ) (h : Hit) (g : Face) → All (λ (k : Hit). k.face ≡ h.face) (hits p h g)
unfolding hits
hits_face p h [] = tt
hits_face p h (c ∷ cs) = go (eqb c.gather p) (hits_face p h cs)
  where
    go : (b : Bool) → All (λ (k : Hit). k.face ≡ h.face) (hits p h cs) → All (λ (k : Hit). k.face ≡ h.face) (cond b (h ∷ hits p h cs) (hits p h cs))
    go true e = (refl, e)
    go false e = e

abbrev sum_w : V3 → List V3 → V3
sum_w s [] = s
sum_w s (n ∷ ns) = sum_w (vadd s n) ns

sum_all_is : (s : V3) (hs : List Hit) → sum_all s hs ≡ sum_w s (map (λ (h : Hit). h.normal) hs)
unfolding sum_all
sum_all_is s [] = refl
sum_all_is s (h ∷ hs) = sum_all_is (vadd s h.normal) hs

abbrev sum_n : Float → V3 → V3 → List V3 → V3
sum_n b u s [] = s
sum_n b u s (n ∷ ns) = sum_n b u (cond (is_near b u (unit_of n)) (vadd s n) s) ns

near_far : (b : Float) (own : ℕ) (u s : V3) (hs : List Hit) → All (λ (h : Hit). h.face ≢ own) hs → sum_near b own u s hs ≡ sum_n b u s (map (λ (h : Hit). h.normal) hs)
unfolding sum_near
near_far b own u s [] a = refl
near_far b own u s (h ∷ hs) a =
    ap (λ (t : V3). sum_near b own u t hs) (step_other b own u s h a.0)
    ∙ near_far b own u (cond (is_near b u (unit_of h.normal)) (vadd s h.normal) s) hs a.1

near_own : (b : Float) (own : ℕ) (u s : V3) (hs : List Hit) → All (λ (h : Hit). h.face ≡ own) hs → sum_near b own u s hs ≡ s
unfolding sum_near
near_own b own u s [] a = refl
near_own b own u s (h ∷ hs) a = ap (λ (t : V3). sum_near b own u t hs) (step_own b own u s h a.0) ∙ near_own b own u s hs a.1

module _ (F : Frame) (p : ℕ) where
  plain : List Face → List V3
  plain [] = []
  plain (g ∷ gs) = copies p (facing F g) g ++ plain gs

  plain_dense : (fs : List Face) → plain (dense fs) ≡ plain fs
  unfolding plain dense
  plain_dense [] = refl
  plain_dense ([] ∷ fs) = plain_dense fs
  plain_dense ((c ∷ cs) ∷ fs) = ap (λ (t : List V3). copies p (facing F (c ∷ cs)) (c ∷ cs) ++ t) (plain_dense fs)

  plain_is : (n : ℕ) (fs : List Face) → map (λ (h : Hit). h.normal) (join_n (hits_of F p) n fs) ≡ plain fs
  unfolding plain hits_of join_n
  plain_is n [] = refl
  plain_is n (g ∷ gs) =
      map-append (λ (h : Hit). h.normal) (hits_of F p n g) (join_n (hits_of F p) (suc n) gs)
      ∙ (λ i. copies_hits p (record { face = n; normal = facing F g }) g i ++ plain_is (suc n) gs i)

  hits_range : (n : ℕ) (fs : List Face) → All (λ (h : Hit). (n ≤ h.face) × (h.face < n + length fs)) (join_n (hits_of F p) n fs)
  unfolding hits_of join_n
  hits_range n [] = tt
  hits_range n (g ∷ gs) =
      All_append (λ (h : Hit). (n ≤ h.face) × (h.face < n + suc (length gs))) (hits_of F p n g) (join_n (hits_of F p) (suc n) gs)
      (All_map (λ (h : Hit) e. let f : h.face ≡ n = e in (omega arith, omega arith)) (hits_of F p n g) (hits_face p (record { face = n; normal = facing F g }) g))
      (All_map (λ (h : Hit) k. let a : suc n ≤ h.face = k.0 in let b : h.face < suc n + length gs = k.1 in (omega arith, omega arith)) (join_n (hits_of F p) (suc n) gs) (hits_range (suc n) gs))

  near_split : (b : Float) (u s : V3) (A : List Face) (f : Face) (B : List Face)
      → sum_near b (length A) u s (incident F (A ++ f ∷ B) p) ≡ sum_n b u (sum_n b u s (plain A)) (plain B)
  unfolding incident hits_of join_n
  near_split b u s A f B =
      let own : ℕ = length A in
      let ha : List Hit = join_n (hits_of F p) 0 A in
      let hf : List Hit = hits_of F p (0 + own) f in
      let hb : List Hit = join_n (hits_of F p) (suc (0 + own)) B in
      let fa : All (λ (h : Hit). h.face ≢ own) ha =
      All_map {Q = λ (h : Hit). h.face ≢ own} (λ (h : Hit) k e. let a : h.face < 0 + length A = k.1 in omega arith) ha (hits_range 0 A) in
      let fb : All (λ (h : Hit). h.face ≢ own) hb =
      All_map {Q = λ (h : Hit). h.face ≢ own} (λ (h : Hit) k e. let a : suc (0 + own) ≤ h.face = k.0 in omega arith) hb (hits_range (suc (0 + own)) B) in
      ap (sum_near b own u s) (join_n_append (hits_of F p) 0 A (f ∷ B))
      ∙ near_append b own u s ha (hf ++ hb)
      ∙ near_append b own u (sum_near b own u s ha) hf hb
      ∙ ap (λ (t : V3). sum_near b own u t hb) (near_own b own u (sum_near b own u s ha) hf (own_hits (0 + own) (zero-add own)))
      ∙ near_far b own u (sum_near b own u s ha) hb fb
      ∙ (λ i. sum_n b u ((near_far b own u s ha fa ∙ ap (sum_n b u s) (plain_is 0 A)) i) (plain_is (suc (0 + own)) B i))
    where
      own_hits : (k : ℕ) → k ≡ length A → All (λ (h : Hit). h.face ≡ length A) (hits_of F p k f)
      own_hits k e = All_map (λ (h : Hit) q. q ∙ e) (hits_of F p k f) (hits_face p (record { face = k; normal = facing F f }) f)

  -- the sum at a corner of a kept face: the same with the skipped faces left out
  sum_dense : (A : List Face) (f : Face) (B : List Face) (n : V3) (r : CreaseRule)
      → crease_sum r (length A) n (incident F (A ++ f ∷ B) p) ≡ crease_sum r (length (dense A)) n (incident F (dense A ++ f ∷ dense B) p)
  unfolding incident plain dense join_n crease_sum near_sum sum_near
  sum_dense A f B n Own = refl
  sum_dense A f B n Every =
      sum_all_is ((v3 zero_f zero_f zero_f)) (incident F (A ++ f ∷ B) p)
      ∙ ap (sum_w ((v3 zero_f zero_f zero_f))) (plain_is 0 (A ++ f ∷ B) ∙ plain_two A f B ∙ sym (plain_is 0 (dense A ++ f ∷ dense B)))
      ∙ sym (sum_all_is ((v3 zero_f zero_f zero_f)) (incident F (dense A ++ f ∷ dense B) p))
    where
      plain_two : (A : List Face) (f : Face) (B : List Face) → plain (A ++ f ∷ B) ≡ plain (dense A ++ f ∷ dense B)
      plain_two [] f B = ap (λ (t : List V3). copies p (facing F f) f ++ t) (sym (plain_dense B))
      plain_two ([] ∷ A) f B = plain_two A f B
      plain_two ((c ∷ cs) ∷ A) f B = ap (λ (t : List V3). copies p (facing F (c ∷ cs)) (c ∷ cs) ++ t) (plain_two A f B)
  sum_dense A f B n (Bound b) = go (unit_of n)
    where
      go : (o : (Option V3))
          → near_sum b (length A) n o (incident F (A ++ f ∷ B) p) ≡ near_sum b (length (dense A)) n o (incident F (dense A ++ f ∷ dense B) p)
      go None = refl
      go (Some u) =
          near_split b u n A f B
          ∙ sym (λ i. sum_n b u (sum_n b u n (plain_dense A i)) (plain_dense B i))
          ∙ sym (near_split b u n (dense A) f (dense B))

-- ---- the pieces, walked side by side

module _ {B : Type 0} (fs : List Face) (g g' : ℕ → Face → List B) (nothing : (n : ℕ) → g n [] ≡ [])
    (same : (A : List Face) (c : Corner) (cs : Face) (R : List Face) → fs ≡ A ++ (c ∷ cs) ∷ R → g (length A) (c ∷ cs) ≡ g' (length (dense A)) (c ∷ cs)) where
  walk : (A R : List Face) → fs ≡ A ++ R → (n m : ℕ) → length A ≡ n → length (dense A) ≡ m → join_n g n R ≡ join_n g' m (dense R)
  unfolding dense join_n
  walk A [] e n m a b = refl
  walk A ([] ∷ R) e n m a b =
      ap (λ (t : List B). t ++ join_n g (suc n) R) (nothing n)
      ∙ walk (A ++ ([] ∷ [])) R (e ∙ sym (append_assoc A ([] ∷ []) R)) (suc n) m (length-append A ([] ∷ []) ∙ ap (λ (k : ℕ). k + 1) a ∙ omega arith)
      (ap length (dense_append A ([] ∷ [])) ∙ length-append (dense A) [] ∙ ap (λ (k : ℕ). k + 0) b ∙ omega arith)
  walk A ((c ∷ cs) ∷ R) e n m a b =
      (λ i. (ap (λ (k : ℕ). g k (c ∷ cs)) (sym a) ∙ same A c cs R e ∙ ap (λ (k : ℕ). g' k (c ∷ cs)) b) i
      ++ walk (A ++ ((c ∷ cs) ∷ [])) R (e ∙ sym (append_assoc A ((c ∷ cs) ∷ []) R)) (suc n) (suc m) (length-append A ((c ∷ cs) ∷ []) ∙ ap (λ (k : ℕ). k + 1) a ∙ omega arith)
      (ap length (dense_append A ((c ∷ cs) ∷ [])) ∙ length-append (dense A) ((c ∷ cs) ∷ []) ∙ ap (λ (k : ℕ). k + 1) b ∙ omega arith) i)

module _ (F : Frame) (fs : List Face) where
  normal_dense : (A : List Face) (c : Corner) (cs : Face) (R : List Face) → fs ≡ A ++ (c ∷ cs) ∷ R → (q : Corner)
      → corner_normal F fs (length A) (c ∷ cs) q ≡ corner_normal F (dense fs) (length (dense A)) (c ∷ cs) q
  unfolding corner_normal generated dense
  normal_dense A c cs R e q =
      let f : Face = c ∷ cs in
      let n : V3 = facing F f in
      let d : dense fs ≡ dense A ++ f ∷ dense R = ap dense e ∙ dense_append A (f ∷ R) in
      ap (λ (s : V3). cond F.supplied q.given (bits (or_else (unit_of s) (or_else (unit_of n) y_axis))))
      (ap (λ (t : List Face). crease_sum F.crease (length A) n (incident F t q.gather)) e
      ∙ sum_dense F q.gather A f R n F.crease
      ∙ sym (ap (λ (t : List Face). crease_sum F.crease (length (dense A)) n (incident F t q.gather)) d))

  keys_dense : (A : List Face) (c : Corner) (cs : Face) (R : List Face) → fs ≡ A ++ (c ∷ cs) ∷ R
      → keys_of F fs (length A) (c ∷ cs) ≡ keys_of F (dense fs) (length (dense A)) (c ∷ cs)
  unfolding keys_of key_of
  keys_dense A c cs R e = λ i. map (λ (q : Corner). record { point = q.point; normal = normal_dense A c cs R e q i; colour = q.colour; texture = q.texture }) (c ∷ cs)

  vertices_dense : vertices F fs ≡ vertices F (dense fs)
  unfolding vertices keys_of dense
  vertices_dense = ap (firsts same_key []) (walk fs (keys_of F fs) (keys_of F (dense fs)) (λ n. refl) keys_dense [] fs refl 0 0 refl refl)

  locals_none : locals F [] ≡ []
  unfolding width
  locals_none = no_elements (locals F []) (length_locals F [])

  indices_dense : (vs : List Key) → indices_of F fs vs ≡ indices_of F (dense fs) vs
  unfolding indices_of face_indices dense
  indices_dense vs =
      walk fs (face_indices F fs vs) (face_indices F (dense fs) vs)
      (λ n. ap (map (λ (i : ℕ). place same_key (get_or (keys_of F fs n []) i no_key) vs)) locals_none)
      (λ A c cs R e. ap (λ (ks : List Key). map (λ (i : ℕ). place same_key (get_or ks i no_key) vs) (locals F (c ∷ cs))) (keys_dense A c cs R e)) [] fs refl 0 0 refl refl

  -- FORMAT 6.2: the mesh of the faces, skipped ones among them, is that of the kept ones alone
  pub mesh_dense : mesh F fs ≡ mesh F (dense fs)
  unfolding mesh
  mesh_dense = λ i. mesh_of F (vertices_dense i) ((indices_dense (vertices F fs) ∙ ap (indices_of F (dense fs)) vertices_dense) i)
