-- A corner's vertex: the search finds the number of its key among the keys held, and the slices then hold the key.
use mathlib.Core.Path.{◌≡◌, refl, sym, ap, ◌∙◌, subst}
use mathlib.Core.Bool.{Bool, true, false, cond}
use mathlib.Core.List.{List, [], ◌∷◌, ◌++◌}
use Prim.Native.Nat.{ℕ, suc, ◌+◌, ◌*◌, ◌≤◌, ◌<◌, suc-le-suc}
use native.Mathlib.Nat.{zero-lt-suc}
use native.Mathlib.Numerals.{add-one}
use native.Mathlib.Omega.{arith}
use borrow.Author.Tests.{eq-eqb, ne_eqb}
use lib.Dec.{T}
use lib.ListN.{length, get_or, set, take, drop, length-append, length-set, get_or-append}
use lib.Seq.{get_or-append_seam, take-set-le}
use Rattle.std.specs.Prelude.{Option, Some, None}
use Rattle.block.specs.declared.number.VertexNumber.{VertexNumber}
use Rattle.lists.specs.Lists.{has, place, meet, firsts}
use Rattle.mesh.specs.Vertices.{Key, same_key}
use Rattle.lists.proofs.Lists.{All_append, All_get_or, T_true, has_get_or, firsts_distinct, meet_old, meet_new}
use Rattle.mesh.proofs.Keys.{same_key_sound, same_key_self}
use Rattle.vertices.specs.declared.places.Widths.{Widths}
use Rattle.vertices.specs.declared.places.Chains.{Chains}
use Rattle.lists.specs.Parts.{seg, spliced}
use Rattle.vertices.specs.Places.{normal_words, colour_words, texture_words, key_words, Store, Roomy, Laid, Room}
use Rattle.vertices.specs.Search.{two, three, four, key_at, corner_key, place_of, bucket_at, Chained}
use Rattle.vertices.specs.Hash.{normal_of, colour_of, texture_of, bucket_of}
use Rattle.vertices.specs.Adding.{linked, Appended, position_of, trimmed, Holds, points_in, count_after, Held, Vertexed}
use Rattle.vertices.proofs.Seek.{up_to, seek_le, seek_hit, seek_absent}
use Rattle.vertices.proofs.Keys.{corner_point_lem, corner_normal_lem, corner_colour, corner_texture, corner_trim}
use Rattle.vertices.proofs.ChainLaws.{chain_grow}
use Rattle.vertices.proofs.Rows.{row_at, row_grow, source_at, source_grow, position_wide, normal_wide, colour_wide, texture_wide, point_words_lem}

-- ---- the keys held, read from the slices

has_none : (k d : Key) (ks : List Key) → ((i : ℕ) → i < length ks → same_key k (get_or ks i d) ≡ false) → has same_key k ks ≡ false
unfolding has
has_none k d [] h = refl
has_none k d (x ∷ ks) h =
    let a : same_key k x ≡ false = h 0 (zero-lt-suc (length ks)) in
    rw a (has_none k d ks (λ i b. h (suc i) (suc-le-suc b)))

-- a vertex that the search finds is one of the n
place_below : (w : Widths) (s : Store) (n : ℕ) (k : Key) (i : VertexNumber) → place_of w s n k ≡ Some i → i.0 < n
unfolding place_of up_to
place_below w s n k i f = subst (λ (x : Option VertexNumber). up_to x ≤ n) f (seek_le (λ i. same_key k (key_at w s i)) n)

module _ (w : Widths) (pts : List ℕ) (z : Store) (s : Store) (ks : List Key) (H : Holds w pts z s ks)
    (W : (w.normal ≤ normal_words) × (w.colour ≤ colour_words) × (w.texture ≤ texture_words)) where
  held_key : (i : ℕ) (d : Key) → i < length ks → key_at w s i ≡ get_or ks i d
  unfolding key_at trimmed
  held_key i d l =
      let a = source_at s.sources (drop (length ks) z.sources) ks i d H.sources l in
      let b = row_at (normal_of w) w.normal (normal_wide w W.0) s.normals (drop (w.normal * length ks) z.normals) ks i d H.normals l in
      let c = row_at (colour_of w) w.colour (colour_wide w W.1) s.colours (drop (w.colour * length ks) z.colours) ks i d H.colours l in
      let e = row_at (texture_of w) w.texture (texture_wide w W.2) s.textures (drop (w.texture * length ks) z.textures) ks i d H.textures l in
      (λ j. record { point = a j; normal = three (b j); colour = four (c j); texture = two (e j) })
      ∙ All_get_or (λ (k : Key). trimmed w k ≡ k) ks H.trim d i l

  module _ (k : Key) (n : ℕ) (e : length ks ≡ n) where
    pub held_old : (i : VertexNumber) → place_of w s n k ≡ Some i → (has same_key k ks ≡ true) × (place same_key k ks ≡ i.0)
    unfolding place_of
    held_old i f =
        let q : ℕ → Bool = λ i. same_key k (key_at w s i) in
        let l : i.0 < length ks = rw e (place_below w s n k i f) in
        let y : k ≡ get_or ks i.0 k = same_key_sound k (get_or ks i.0 k) (subst (λ (c : Bool). T c) (sym (ap (same_key k) (sym (held_key i.0 k l)) ∙ seek_hit q n i f)) tt) in (
          T_true _ (subst (λ (c : Key). T (has same_key c ks)) (sym y) (has_get_or same_key same_key_self ks i.0 k l)),
          ap (λ (c : Key). place same_key c ks) y ∙ H.distinct i.0 k l,
        )

    pub held_new : place_of w s n k ≡ None → has same_key k ks ≡ false
    unfolding place_of
    held_new f =
        let q : ℕ → Bool = λ i. same_key k (key_at w s i) in
        has_none k k ks (λ i b. ap (same_key k) (sym (held_key i k b)) ∙ seek_absent q n i f (rw (← e) b))

-- ---- meeting a key

abbrev Own : List Key → Type 0
Own ks = (i : ℕ) (d : Key) → i < length ks → place same_key (get_or ks i d) ks ≡ i

own_meet : (ks : List Key) (k : Key) → Own ks → Own (meet same_key ks k)
unfolding firsts
own_meet ks k D = firsts_distinct same_key same_key_self ks (k ∷ []) D

-- a new key's number is the next
pub place_new : (ks : List Key) (k : Key) → Own ks → has same_key k ks ≡ false → place same_key k (meet same_key ks k) ≡ length ks
place_new ks k D e =
    let m = meet_new same_key k ks e in
    let l : length (ks ++ (k ∷ [])) ≡ length ks + 1 = length-append ks (k ∷ []) in
    let o : Own (ks ++ (k ∷ [])) = subst Own m (own_meet ks k D) in
    ap (place same_key k) m
    ∙ ap (λ (c : Key). place same_key c (ks ++ (k ∷ []))) (sym (get_or-append_seam ks k [] k))
    ∙ o (length ks) k (omega arith)

pub count_same : (n r : ℕ) → r < n → n ≡ count_after n r
unfolding count_after
count_same n r h = sym (ap (λ (b : Bool). cond b (suc n) n) (ne_eqb r n (λ e. omega arith)))

pub count_more : (n : ℕ) → n + 1 ≡ count_after n n
unfolding count_after
count_more n = sym (ap (λ (b : Bool). cond b (suc n) n) (eq-eqb n n refl) ∙ sym (add-one n))

-- ---- the two ways of a corner

linked_front : (t : Chains) (m : List ℕ) (n b : ℕ) → t.heads ≤ t.nexts → take t.heads (linked t m n b) ≡ take t.heads m
unfolding linked
linked_front t m n b h =
    let old = get_or m (t.heads + b) 0 in
    take-set-le t.heads (set m (t.nexts + n) old) (t.heads + b) (n + 1) (omega arith) ∙ take-set-le t.heads m (t.nexts + n) old (omega arith)

linked_length : (t : Chains) (m : List ℕ) (n b : ℕ) → length (linked t m n b) ≡ length m
unfolding linked
linked_length t m n b =
    let old = get_or m (t.heads + b) 0 in
    length-set (set m (t.nexts + n) old) (t.heads + b) (n + 1) ∙ length-set m (t.nexts + n) old

pub laid_le : {t : Chains} {len n : ℕ} (m : ℕ) → Laid t len n → m ≤ n → Laid t len m
laid_le {t} {len} {n} m L h = record { some = L.some; points = L.points; buckets = L.buckets; heads = L.heads; nexts = omega (arith, L.nexts) }

pub vertexed_old : (w : Widths) (t : Chains) (n : ℕ) (k : Key) (s : Store) (m : List ℕ) (i : VertexNumber) → Roomy w s (n + 1)
    → Chained t (bucket_at w t s) m n → place_of w s n k ≡ Some i → Vertexed w t n k s m s m i.0
vertexed_old w t n k s m i R C f =
    record {
      number = λ z ks H e. let a = held_old w (points_in t m) z s ks H R.widths k n e i f in
          sym (ap (place same_key k) (meet_old same_key k ks a.0) ∙ a.1);
      holds = λ z ks H e. let a = held_old w (points_in t m) z s ks H R.widths k n e i f in
          subst (Holds w (points_in t m) z s) (sym (meet_old same_key k ks a.0)) H;
      chained = subst (Chained t (bucket_at w t s) m) (count_same n i.0 (place_below w s n k i f)) C;
      front = refl;
      len = refl;
    }

module _ (w : Widths) (t : Chains) (n v b : ℕ) (l : List ℕ) (s : Store) (m : List ℕ) (s' : Store) (m' : List ℕ) (R : Room w t s m (n + 1)) (p : v < t.spots) (g : key_words ≤ length l)
    (A : Appended w t n v b l s m s' m') where
  k : Key
  k = corner_key w v l

  W : (w.normal ≤ normal_words) × (w.colour ≤ colour_words) × (w.texture ≤ texture_words)
  W = R.roomy.widths

  position : seg m (t.points + 3 * v) 3 ≡ position_of (points_in t m) k
  unfolding position_of points_in k corner_key
  position = let L = R.laid in point_words_lem m t.points t.spots v p (omega arith)

  held_grow : (z : Store) (ks : List Key) → Holds w (points_in t m) z s ks → length ks ≡ n → Own (ks ++ (k ∷ []))
      → Holds w (points_in t m) z s' (ks ++ (k ∷ []))
  unfolding k
  held_grow z ks H e D =
      record {
        sources = A.sources ∙ ap (set s.sources n) (sym (corner_point_lem w v l)) ∙ source_grow z.sources s.sources ks k n e H.sources (omega (arith, R.roomy.sources));
        positions = A.positions ∙ ap (spliced s.positions (3 * n)) position ∙ row_grow (position_of (points_in t m)) 3 (position_wide (points_in t m)) z.positions s.positions ks k n e H.positions;
        normals = A.normals ∙ ap (spliced s.normals (w.normal * n)) (sym (corner_normal_lem w v l W g))
            ∙ row_grow (normal_of w) w.normal (normal_wide w W.0) z.normals s.normals ks k n e H.normals;
        colours = A.colours ∙ ap (spliced s.colours (w.colour * n)) (sym (corner_colour w v l W g))
            ∙ row_grow (colour_of w) w.colour (colour_wide w W.1) z.colours s.colours ks k n e H.colours;
        textures = A.textures ∙ ap (spliced s.textures (w.texture * n)) (sym (corner_texture w v l W g))
            ∙ row_grow (texture_of w) w.texture (texture_wide w W.2) z.textures s.textures ks k n e H.textures;
        trim = All_append (λ (c : Key). trimmed w c ≡ c) ks (k ∷ []) H.trim (corner_trim w v l W g, tt);
        distinct = D;
      }

  -- where the key is new
  module _ (f : place_of w s n (corner_key w v l) ≡ None) where
    met_new : (z : Store) (ks : List Key) → Holds w (points_in t m) z s ks → length ks ≡ n → meet same_key ks k ≡ ks ++ (k ∷ [])
    unfolding k
    met_new z ks H e = meet_new same_key k ks (held_new w (points_in t m) z s ks H W k n e f)

    grown : (z : Store) (ks : List Key) → Holds w (points_in t m) z s ks → length ks ≡ n → Holds w (points_in t m) z s' (ks ++ (k ∷ []))
    grown z ks H e = held_grow z ks H e (subst Own (met_new z ks H e) (own_meet ks k H.distinct))

    -- the new vertex has the key, and those before it have theirs
    module _ (H : Held w (points_in t m) s n) where
      key_grown : (i : ℕ) → i < n + 1 → key_at w s' i ≡ get_or (H.keys ++ (k ∷ [])) i k
      key_grown i h =
          held_key w (points_in t m) H.beyond s' (H.keys ++ (k ∷ [])) (grown H.beyond H.keys H.holds H.count) W i k
          (omega (arith, length-append H.keys (k ∷ []), H.count))

      bucket_old : (i : ℕ) → i < n → bucket_at w t s' i ≡ bucket_at w t s i
      unfolding bucket_at
      bucket_old i h =
          let a : i < length H.keys = omega (arith, H.count) in
          ap (bucket_of t.buckets) (key_grown i (omega arith) ∙ get_or-append H.keys (k ∷ []) k i a
          ∙ sym (held_key w (points_in t m) H.beyond s H.keys H.holds W i k a))

      bucket_new : b ≡ bucket_of t.buckets (corner_key w v l) → bucket_at w t s' n ≡ b
      unfolding bucket_at k
      bucket_new q =
          ap (bucket_of t.buckets) (key_grown n (omega arith) ∙ ap (λ (i : ℕ). get_or (H.keys ++ (k ∷ [])) i k) (sym H.count) ∙ get_or-append_seam H.keys k [] k) ∙ sym q

      pub vertexed_new : Chained t (bucket_at w t s) m n → b ≡ bucket_of t.buckets (corner_key w v l) → b < t.buckets
          → Vertexed w t n (corner_key w v l) s m s' m' n
      unfolding k
      vertexed_new C q h =
          let L = R.laid in
          record {
            number = λ z ks H e. sym (place_new ks k H.distinct (held_new w (points_in t m) z s ks H W k n e f) ∙ e);
            holds = λ z ks H e. subst (Holds w (points_in t m) z s') (sym (met_new z ks H e)) (grown z ks H e);
            chained = rw (A.table, ← count_more n) (chain_grow (bucket_at w t s) (bucket_at w t s') n b bucket_old (bucket_new q) t m C L h);
            front = ap (take t.heads) A.table ∙ linked_front t m n b (omega arith);
            len = ap length A.table ∙ linked_length t m n b;
          }
