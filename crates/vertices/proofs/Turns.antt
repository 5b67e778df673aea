-- A loop over corners: what holds after c of them, one corner more, and the number that each corner gets.
use mathlib.Core.Path.{◌≡◌, refl, sym, ap, ap₂, ◌∙◌, subst}
use mathlib.Core.Logic.{⊎_elim}
use mathlib.Core.List.{List, [], ◌∷◌, map}
use Prim.Native.Nat.{ℕ, ◌+◌, ◌*◌, ◌-◌, ◌≤◌, ◌<◌}
use native.Mathlib.Nat.{not-suc-le-zero, mul-zero}
use native.Mathlib.Omega.{arith}
use lib.Dec.{T}
use lib.ListN.{length, get_or, set, length-append, length-map, length-set}
use lib.Seq.{take-set-le}
use Rattle.lists.specs.Loops.{tab}
use Rattle.lists.proofs.Tabs.{length_tab, tab_add, tab_snoc}
use Rattle.lists.specs.Lists.{has, place, meet, firsts, flat}
use Rattle.mesh.specs.Vertices.{Key, same_key}
use Rattle.lists.proofs.Lists.{meet_old, meet_new, T_true, middle, place_lt, length_firsts, firsts_append, has_firsts_new, length_filled}
use Rattle.mesh.proofs.Keys.{same_key_sound, same_key_self}
use Rattle.mesh.proofs.Facts.{number_stays}
use Rattle.lists.proofs.Tests.{cases}
use Rattle.vertices.specs.declared.places.Widths.{Widths}
use Rattle.vertices.specs.declared.places.Chains.{Chains}
use Rattle.lists.specs.Parts.{seg}
use Rattle.vertices.specs.declared.places.VertexSlices.{VertexSlices}
use Rattle.vertices.specs.Places.{key_words, Store, SameSlices, Roomy, Laid}
use Rattle.vertices.specs.Search.{bucket_at, Chained}
use Rattle.vertices.specs.Hash.{normal_of, colour_of, texture_of}
use Rattle.vertices.specs.Adding.{position_of, Holds, made_of, points_in, count_after, Ready, Vertexed}
use Rattle.vertices.proofs.Keys.{roomy_le}
use Rattle.vertices.proofs.ChainLaws.{chained_none, chained_set}
use Rattle.vertices.proofs.Rows.{rows_stay, position_wide, normal_wide, colour_wide, texture_wide}
use Rattle.vertices.proofs.Held.{laid_le, place_new, count_same, count_more}

-- ---- the vertices of the first corners

module _ (f : ℕ → Key) where
  pub made_none : made_of f 0 ≡ []
  unfolding made_of tab firsts
  made_none = refl

  -- one corner more is one key met
  pub made_more : (c : ℕ) → made_of f (c + 1) ≡ meet same_key (made_of f c) (f c)
  unfolding made_of firsts
  made_more c = ap (firsts same_key []) (tab_snoc f c) ∙ firsts_append same_key [] (tab f c 0) (f c ∷ [])

  -- at most one vertex a corner
  pub made_few : (c : ℕ) → length (made_of f c) ≤ c
  unfolding made_of
  made_few c =
      let a : length (firsts same_key [] (tab f c 0)) ≤ 0 + length (tab f c 0) = length_firsts same_key [] (tab f c 0) in
      omega (arith, length_tab f c 0)

  made_has : (c : ℕ) → T (has same_key (f c) (made_of f (c + 1)))
  unfolding made_of has
  made_has c = rw (tab_snoc f c, firsts_append) (has_firsts_new same_key same_key_sound same_key_self (f c) (firsts same_key [] (tab f c 0)) (f c ∷ []) self)
    where
      self : T (has same_key (f c) (f c ∷ []))
      self = rw (T_true (same_key (f c) (f c)) (same_key_self (f c))) tt

  stays_by : (c j : ℕ) → place same_key (f c) (made_of f (c + 1 + j)) ≡ place same_key (f c) (made_of f (c + 1))
  unfolding made_of
  stays_by c j = ap (λ (l : List Key). place same_key (f c) (firsts same_key [] l)) (tab_add f (c + 1) j 0) ∙ number_stays (f c) (tab f (c + 1) 0) (tab f j (0 + (c + 1))) (made_has c)

  -- a number once given stays
  pub made_stays : (c m : ℕ) → c < m → place same_key (f c) (made_of f m) ≡ place same_key (f c) (made_of f (c + 1))
  made_stays c m h =
      let e : m ≡ c + 1 + (m - (c + 1)) = omega arith in
      ap (λ (u : ℕ). place same_key (f c) (made_of f u)) e ∙ stays_by c (m - (c + 1))

-- the count of the vertices after a key is met
meet_count : (ks : List Key) (k : Key) → ((i : ℕ) (d : Key) → i < length ks → place same_key (get_or ks i d) ks ≡ i)
    → length (meet same_key ks k) ≡ count_after (length ks) (place same_key k (meet same_key ks k))
meet_count ks k D =
    ⊎_elim
    (λ e. let m = meet_old same_key k ks e in
    let l : place same_key k ks < length ks = place_lt same_key k ks (subst T (sym e) tt) in
    rw m (count_same (length ks) (place same_key k ks) l))
    (λ e. let m = meet_new same_key k ks e in
    ap length m ∙ length-append ks (k ∷ []) ∙ count_more (length ks) ∙ ap (count_after (length ks)) (sym (place_new ks k D e)))
    (cases (has same_key k ks))

-- ---- what is lent stays lent

pub slices_same : {r : VertexSlices} → SameSlices r r
slices_same = record { sources = refl; positions = refl; normals = refl; colours = refl; textures = refl }

pub slices_then : {r s t : VertexSlices} → SameSlices r s → SameSlices s t → SameSlices r t
slices_then a b =
    record {
      sources = b.sources ∙ a.sources;
      positions = b.positions ∙ a.positions;
      normals = b.normals ∙ a.normals;
      colours = b.colours ∙ a.colours;
      textures = b.textures ∙ a.textures;
    }

-- slice by slice
pub store_as : (s : Store) {a b c d e : List ℕ} → a ≡ s.sources → b ≡ s.positions → c ≡ s.normals → d ≡ s.colours → e ≡ s.textures
    → record { sources = a; positions = b; normals = c; colours = d; textures = e } ≡ s
store_as s p q r t u = λ i. record { sources = p i; positions = q i; normals = r i; colours = t i; textures = u i }

-- ---- the loop

-- c corners are done, with keys f 0 .. f (c - 1): n vertices are made, the slices s hold them, and beyond them what z held, and the table m has
-- their chains and, below the heads, the points' words pts
pub record Made (w : Widths) (t : Chains) (pts : List ℕ) (f : ℕ → Key) (z : Store) (size c n : ℕ) (s : Store) (m : List ℕ) : Type 0 where
  pub count : length (made_of f c) ≡ n
  pub holds : Holds w pts z s (made_of f c)
  pub chained : Chained t (bucket_at w t s) m n
  pub points : points_in t m ≡ pts
  pub len : length m ≡ size

-- the slices s are as long as z
pub record Lengths (z : Store) (s : Store) : Type 0 where
  pub sources : length s.sources ≡ length z.sources
  pub positions : length s.positions ≡ length z.positions
  pub normals : length s.normals ≡ length z.normals
  pub colours : length s.colours ≡ length z.colours
  pub textures : length s.textures ≡ length z.textures

-- where there was room for n vertices, slices that hold no more are as long as they were
pub holds_lengths : {w : Widths} {pts : List ℕ} {z s : Store} {ks : List Key} {n : ℕ} → Holds w pts z s ks → length ks ≤ n → Roomy w z n → Lengths z s
holds_lengths {w} {pts} {z} {s} {ks} {n} H b R =
    record {
      sources = ap length H.sources
          ∙ length_filled z.sources (map (λ (k : Key). k.point) ks) (length ks) (length-map ks (λ (k : Key). k.point)) (omega (arith, R.sources));
      positions = rows_stay (position_of pts) 3 (position_wide pts) z.positions s.positions ks n H.positions b R.positions;
      normals = rows_stay (normal_of w) w.normal (normal_wide w R.widths.0) z.normals s.normals ks n H.normals b R.normals;
      colours = rows_stay (colour_of w) w.colour (colour_wide w R.widths.1) z.colours s.colours ks n H.colours b R.colours;
      textures = rows_stay (texture_of w) w.texture (texture_wide w R.widths.2) z.textures s.textures ks n H.textures b R.textures;
    }

module _ (w : Widths) (t : Chains) (pts : List ℕ) (f : ℕ → Key) (z : Store) (size : ℕ) where
  holds_none : Holds w pts z z []
  unfolding flat
  holds_none =
      record {
        sources = refl;
        positions = refl;
        normals = rw (mul-zero w.normal);
        colours = rw (mul-zero w.colour);
        textures = rw (mul-zero w.texture);
        trim = tt;
        distinct = λ i d b. absurd (not-suc-le-zero b);
      }

  -- before the first corner the heads are zeros
  pub made_start : (m : List ℕ) → points_in t m ≡ pts → length m ≡ size → ((b : ℕ) → b < t.buckets → get_or m (t.heads + b) 0 ≡ 0)
      → Made w t pts f z size 0 0 z m
  made_start m p q h =
      record {
        count = ap length (made_none f);
        holds = subst (Holds w pts z z) (sym (made_none f)) holds_none;
        chained = chained_none t (bucket_at w t z) m h;
        points = p;
        len = q;
      }

  module _ (c n : ℕ) (s : Store) (m : List ℕ) (M : Made w t pts f z size c n s m) where
    pub made_below : n ≤ c
    made_below = omega (arith, made_few f c, M.count)

    -- the slices keep their lengths
    pub made_lengths : (corners : ℕ) → Roomy w z corners → c ≤ corners → Lengths z s
    made_lengths corners R h = holds_lengths M.holds (omega (arith, made_few f c)) R

    -- where there is room for the vertices of all corners
    module _ (corners : ℕ) (L : Laid t size corners) where
      -- words between the points' and the heads may be written
      pub made_set : (i a : ℕ) → t.points + 3 * t.spots ≤ i → i < t.heads → Made w t pts f z size c n s (set m i a)
      unfolding points_in seg
      made_set i a p h =
          record {
            count = M.count;
            holds = M.holds;
            chained = chained_set t (bucket_at w t s) m n i a M.chained h (omega arith);
            points = middle t.points (3 * t.spots) i (set m i a) m p (take-set-le i m i a (omega arith)) ∙ M.points;
            len = length-set m i a ∙ M.len;
          }

      -- what `vertex` asks at a corner with point v and words l
      pub made_ready : (v : ℕ) (l : List ℕ) → Roomy w z corners → c < corners → v < t.spots → key_words ≤ length l → Ready w t s m n v l
      made_ready v l R h hv hl =
          let E = made_lengths corners R (omega arith) in
          let b : n + 1 ≤ corners = omega (arith, made_below) in
          let Q = roomy_le (n + 1) R b in
          record {
            room = record {
              roomy = record {
                widths = R.widths;
                few = Q.few;
                sources = rw E.sources Q.sources;
                positions = rw E.positions Q.positions;
                normals = rw E.normals Q.normals;
                colours = rw E.colours Q.colours;
                textures = rw E.textures Q.textures;
              };
              laid = rw M.len (laid_le (n + 1) L b);
            };
            held = record { beyond = z; keys = made_of f c; count = M.count; holds = rw M.points M.holds };
            chained = M.chained;
            point = hv;
            words = hl;
          }

      module _ (k : Key) (s' : Store) (m' : List ℕ) (r : ℕ) (N : Vertexed w t n k s m s' m' r) (is : k ≡ f c) where
        -- the keys held before it
        before : Holds w (points_in t m) z s (made_of f c)
        before = subst (λ (p : List ℕ). Holds w p z s (made_of f c)) (sym M.points) M.holds

        met : meet same_key (made_of f c) k ≡ made_of f (c + 1)
        met = ap (meet same_key (made_of f c)) is ∙ sym (made_more f c)

        number : r ≡ place same_key (f c) (made_of f (c + 1))
        number = N.number z (made_of f c) before M.count ∙ ap₂ (place same_key) is met

        -- the number that corner c gets is that of its key among the vertices of all corners
        pub vertex_number : (all : ℕ) → c < all → r ≡ place same_key (f c) (made_of f all)
        vertex_number all h = number ∙ sym (made_stays f c all h)

        -- one corner more
        pub vertex_turn : Made w t pts f z size (c + 1) (count_after n r) s' m'
        unfolding points_in seg
        vertex_turn =
            record {
              count = ap length (made_more f c) ∙ meet_count (made_of f c) (f c) M.holds.distinct
                  ∙ ap₂ count_after M.count (ap (place same_key (f c)) (sym (made_more f c)) ∙ sym number);
              holds = subst (λ (p : List ℕ). Holds w p z s' (made_of f (c + 1))) M.points
                  (subst (Holds w (points_in t m) z s') met (N.holds z (made_of f c) before M.count));
              chained = N.chained;
              points = middle t.points (3 * t.spots) t.heads m' m L.points N.front ∙ M.points;
              len = N.len ∙ M.len;
            }
