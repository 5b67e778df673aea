-- The loop over all corners: a corner's key is read as it was before the loop, one corner more, and what is left at the end.
use mathlib.Core.Path.{◌≡◌, sym, ap₂, ◌∙◌}
use mathlib.Core.List.{List, [], ◌∷◌, ◌++◌}
use Prim.Native.Nat.{ℕ, ◌+◌, ◌*◌, ◌≤◌, ◌<◌}
use native.Mathlib.Omega.{arith}
use lib.Dec.{T}
use lib.ListN.{length, get_or, set, replicate, length-replicate}
use Rattle.std.specs.Option.{option_map_or}
use Rattle.block.specs.Stream.{get3_at, get4_at}
use Rattle.lists.specs.Lists.{has, place, meet, firsts}
use Rattle.mesh.specs.Words.{words2, words3, words4, no3}
use Rattle.mesh.specs.Vertices.{Key, same_key}
use Rattle.lists.proofs.Lists.{T_true, place_lt, length_firsts, has_firsts_new}
use Rattle.mesh.proofs.Keys.{same_key_sound, same_key_self}
use Rattle.lists.specs.Parts.{spliced, Kept, TableOf}
use Rattle.lists.proofs.Keep.{kept_set, kept_less, kept_then, kept_at, kept_seg, set_miss, table_none, table_more, table_kept}
use Rattle.lists.proofs.Splices.{put_kept, put_same}
use Rattle.vertices.specs.declared.places.Widths.{Widths}
use Rattle.vertices.specs.declared.places.Chains.{Chains}
use Rattle.vertices.specs.Places as places
use Rattle.vertices.specs.Places.{key_words, Store}
use Rattle.vertices.specs.Search.{corner_key}
use Rattle.vertices.specs.Adding as adding
use Rattle.vertices.specs.Adding.{points_in, Vertexed}
use Rattle.vertices.proofs.Turns.{Made, made_start, made_set, made_ready, vertex_number, vertex_turn}
use Rattle.corners.specs.declared.attributes.Attributes.{Attributes}
use Rattle.corners.specs.declared.laid.CornerTables.{CornerTables}
use Rattle.corners.specs.Laid.{Laid, chains_of}
use Rattle.corners.specs.Corner.{Lent, point_at, place_at, number_at, texture_at, generated_at, normal_at, colour_at, words_at, key_in}
use Rattle.corners.specs.Numbered.{Numbered}
use Rattle.corners.specs.Cornered.{Ready, vertices_in, Cornered}

-- ---- the number of a corner's vertex is small

met_has : (ks : List Key) (k : Key) → T (has same_key k (meet same_key ks k))
unfolding firsts has
met_has ks k = has_firsts_new same_key same_key_sound same_key_self k ks (k ∷ []) (rw (T_true (same_key k k) (same_key_self k)) tt)

met_few : (ks : List Key) (k : Key) → length (meet same_key ks k) ≤ length ks + 1
unfolding firsts
met_few ks k = length_firsts same_key ks (k ∷ [])

pub number_few : {widths : Widths} {t : Chains} {s : Store} {m : List ℕ} {n v : ℕ} {l : List ℕ} {k : Key} {s' : Store} {m' : List ℕ} {r : ℕ}
    → adding.Ready widths t s m n v l → Vertexed widths t n k s m s' m' r → r ≤ n
number_few {n = n} {k = k} {r = r} R N =
    let H = R.held in
    let ks = H.keys in
    let q : r ≡ place same_key k (meet same_key ks k) = N.number H.beyond ks H.holds H.count in
    omega (arith, place_lt same_key k (meet same_key ks k) (met_has ks k), met_few ks k, H.count)

-- ---- a corner's words

-- the words m are those of w, but for the vertex numbers and the chains
pub record Same (t : CornerTables) (w m : List ℕ) : Type 0 where
  pub kept : Kept t.named w m
  pub between : (p : ℕ) → t.named + t.count ≤ p → p < t.heads → get_or m p 0 ≡ get_or w p 0

-- words that are kept below the heads
same_front : {t : CornerTables} {w m : List ℕ} → t.named ≤ t.heads → Kept t.heads w m → Same t w m
same_front h K = record { kept = kept_less K h; between = λ p a b. kept_at K p b }

same_then : {t : CornerTables} {w m m' : List ℕ} → t.named ≤ t.heads → Same t w m → Kept t.heads m m' → Same t w m'
same_then h S K = record { kept = kept_then S.kept K h; between = λ p a b. kept_at K p b ∙ S.between p a b }

-- a vertex number is written
same_set : {t : CornerTables} {w m : List ℕ} (c v : ℕ) → c < t.count → Same t w m → Same t w (set m (t.named + c) v)
same_set {t} {w} {m} c v h S =
    record {
      kept = kept_set (t.named + c) v S.kept (omega arith);
      between = λ p a b. set_miss m (t.named + c) v p (λ e. omega arith) ∙ S.between p a b;
    }

module _ {t : CornerTables} {w m : List ℕ} (Q : Laid t (length w)) (S : Same t w m) (c : ℕ) (h : c < t.count) where
  point_same : point_at m t c ≡ point_at w t c
  unfolding point_at
  point_same = kept_at S.kept (t.corners + c) (omega arith)

  place_same : place_at m t c ≡ place_at w t c
  unfolding place_at
  place_same = S.between (t.places + c) (omega arith) (omega arith)

  number_same : number_at m t c ≡ number_at w t c
  unfolding number_at
  number_same = S.between (t.numbers + c) (omega arith) (omega arith)

  texture_same : texture_at m t c ≡ texture_at w t c
  unfolding texture_at
  texture_same =
      let a = S.between (t.textures + 2 * c) (omega arith) (omega arith) in
      let b = S.between (t.textures + 2 * c + 1) (omega arith) (omega arith) in
      λ i. record { s = a i; t = b i }

  module _ (L : Lent) (a : Attributes) where
    normal_same : normal_at L a m t c ≡ normal_at L a w t c
    unfolding normal_at
    normal_same = λ i. option_map_or (λ s. get3_at L.block L.coord s (place_same i) (number_same i) no3) a.normals (generated_at L.floats c)

    colour_same : colour_at L a m t c ≡ colour_at L a w t c
    unfolding colour_at
    colour_same = λ i. get4_at L.block L.coord a.colours a.alpha (place_same i) (number_same i) a.missing

    words_same : words_at L a m t c ≡ words_at L a w t c
    unfolding words_at
    words_same = λ i. words3 (normal_same i) ++ words4 (colour_same i) ++ words2 (texture_same i)

    key_same : (widths : Widths) → key_in L a widths m t c ≡ key_in L a widths w t c
    unfolding key_in
    key_same widths = ap₂ (corner_key widths) point_same words_same

-- ---- the loop

-- c corners are done since the slices were z and the words w: n vertices are made, and the first c vertex numbers are written
pub record Turned (L : Lent) (a : Attributes) (widths : Widths) (t : CornerTables) (z : Store) (w : List ℕ) (c n : ℕ) (s : Store) (m : List ℕ) : Type 0 where
  pub ready : Ready L widths w t z
  pub upto : c ≤ t.count
  pub made : Made widths (chains_of t) (points_in (chains_of t) w) (key_in L a widths w t) z (length w) c n s m
  pub same : Same t w m
  pub named : TableOf m t.named c (λ j. place same_key (key_in L a widths w t j) (vertices_in L a widths w t))

-- the same of whatever words w were w₁ once their heads were cleared
abbrev pub Turning : Lent → Attributes → Widths → CornerTables → Store → List ℕ → ℕ → ℕ → Store → List ℕ → Type 0
Turning L a widths t z w₁ c n s m = (w : List ℕ) → w₁ ≡ spliced w t.heads (replicate t.buckets 0) → Ready L widths w t z → Turned L a widths t z w c n s m

module _ {t : CornerTables} {len : ℕ} (Q : Laid t len) where
  order : t.named ≤ t.heads
  order = omega arith

  chains_laid : places.Laid (chains_of t) len t.count
  chains_laid = record { some = Q.some; points = omega arith; buckets = Q.buckets; heads = Q.heads; nexts = Q.nexts }

module _ {L : Lent} {a : Attributes} {widths : Widths} {t : CornerTables} {z : Store} where
  -- the heads are cleared
  pub turned_start : {w₁ : List ℕ} → Turning L a widths t z w₁ 0 0 z w₁
  unfolding points_in
  turned_start {w₁} w f R =
      let Q = R.laid in
      let h : t.heads + t.buckets ≤ length w = omega arith in
      let K = put_kept w t.heads _ f (length-replicate t.buckets 0) h in
      let e = kept_seg K t.points (3 * t.spots) (omega arith) (omega arith) in
      record {
        ready = R;
        upto = omega arith;
        made = made_start widths (chains_of t) _ _ z (length w) w₁ e K.len (put_same w 0 h f).at;
        same = same_front (order Q) K;
        named = table_none;
      }

  module _ {w : List ℕ} {c n : ℕ} {s : Store} {m : List ℕ} (U : Turned L a widths t z w c n s m) where
    R : Ready L widths w t z
    R = U.ready

    pub turned_laid : Laid t (length m)
    turned_laid = rw U.made.len R.laid

    -- all corners are done
    pub turned_all : t.count ≤ c → Cornered L a widths t z w s m n
    unfolding vertices_in
    turned_all h =
        let e : c ≡ t.count = omega (arith, U.upto) in
        let E : Turned L a widths t z w t.count n s m = rw e at U in
        record { count = sym E.made.count; holds = E.made.holds; named = E.named.at; kept = E.same.kept }

    module _ (h : c < t.count) where
      -- what is asked for corner c
      pub turned_ready : (l : List ℕ) → key_words ≤ length l → adding.Ready widths (chains_of t) s m n (point_at m t c) l
      turned_ready l g =
          made_ready _ _ _ _ _ _ c n s m U.made t.count (chains_laid R.laid) (point_at m t c) l R.roomy h
          (rw (point_same R.laid U.same c h) (R.points c h)) g

      -- one corner more
      module _ {l : List ℕ} {s' : Store} {m' : List ℕ} {n' : ℕ} (N : Numbered widths t n c l s m s' m' n')
          (e : corner_key widths (point_at m t c) l ≡ key_in L a widths m t c) where
        front : Kept t.heads m N.table
        front = record { len = N.vertexed.len; front = N.vertexed.front }

        is : corner_key widths (point_at m t c) l ≡ key_in L a widths w t c
        is = e ∙ key_same R.laid U.same c h L a widths

        pub turned_next : Turned L a widths t z w (c + 1) n' s' m'
        unfolding vertices_in
        turned_next =
            let Q = R.laid in
            let C = chains_laid Q in
            let M = vertex_turn _ _ _ _ _ _ c n s m U.made t.count C _ s' N.table N.number N.vertexed is in
            let q = vertex_number _ _ _ _ _ _ c n s m U.made t.count C _ s' N.table N.number N.vertexed is t.count h in
            rw (N.written, N.count)
            (record {
              ready = R;
              upto = omega arith;
              made = made_set _ _ _ _ _ _ (c + 1) _ s' N.table M t.count C (t.named + c) N.number (omega arith) (omega arith);
              same = same_set c N.number h (same_then (order Q) U.same front);
              named = table_more N.table t.named c N.number (omega (arith, front.len, U.made.len)) q
                  (table_kept t.named c front (omega arith) U.named);
            })
