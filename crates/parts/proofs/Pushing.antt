-- Vertices written one after the other: none, some and then more.
use mathlib.Core.Path.{◌≡◌, refl, sym, ap, ◌∙◌}
use mathlib.Core.Bool.{Bool, true, false, cond}
use mathlib.Core.List.{List, [], ◌∷◌, ◌++◌, map, map-append}
use Prim.Native.Nat.{ℕ, ◌+◌, ◌*◌, ◌≤◌}
use native.Mathlib.Nat.{mul-add, mul-le-mul_left, zero-mul}
use native.Mathlib.Omega.{arith}
use lib.ListN.{length, length-map}
use Rattle.lists.specs.Lists.{flat}
use Rattle.lists.specs.Parts.{spliced}
use Rattle.lists.proofs.Lists.{length_words}
use Rattle.lists.proofs.Pieces.{flat_append}
use Rattle.lists.proofs.Splices.{splice_start, splice_more, put_size}
use Rattle.bits.specs.declared.Words2.{Words2}
use Rattle.mesh.specs.Words.{words2, words3, bits}
use Rattle.parts.specs.declared.vert.GeomCtx.{GeomCtx}
use Rattle.parts.specs.declared.vert.Vert.{Vert}
use Rattle.parts.specs.Part.{positions_of, normals_of, textures_of, uv_of}
use Rattle.parts.specs.Pushed.{Streams, position_words, normal_words, texture_words, texture_width, pushed, RoomFor}

-- ---- the words of vertices

module _ {W : Type 0} (w : W → List ℕ) (n : ℕ) (wide : (x : W) → length (w x) ≡ n) (f : Vert → W) where
  words_length : (vs : List Vert) → length (flat (map w (map f vs))) ≡ n * length vs
  words_length vs = length_words w n wide (map f vs) ∙ ap (λ (k : ℕ). n * k) (length-map vs f)

  words_append : (vs us : List Vert) → flat (map w (map f (vs ++ us))) ≡ flat (map w (map f vs)) ++ flat (map w (map f us))
  words_append vs us =
      ap (λ (l : List W). flat (map w l)) (map-append f vs us) ∙ ap flat (map-append w (map f vs) (map f us)) ∙ flat_append (map w (map f vs)) (map w (map f us))

-- words of vertices that stand one after the other, n a vertex
record Stream (n : ℕ) (W : List Vert → List ℕ) : Type 0 where
  none : W [] ≡ []
  wide : (vs : List Vert) → length (W vs) ≡ n * length vs
  joins : (vs us : List Vert) → W (vs ++ us) ≡ W vs ++ W us

positions_stream : Stream 3 position_words
unfolding positions_of flat
positions_stream = record { none = refl; wide = words_length words3 3 (λ x. refl) _; joins = words_append words3 3 (λ x. refl) _ }

normals_stream : Stream 3 normal_words
unfolding normals_of flat
normals_stream = record { none = refl; wide = words_length words3 3 (λ x. refl) _; joins = words_append words3 3 (λ x. refl) _ }

-- by whether texture is wanted
textures_by : (c : GeomCtx) (b : Bool) → c.need_uvs ≡ b → Stream (cond b 2 0) (λ vs. flat (map words2 (cond b (map (uv_of c) vs) [])))
unfolding flat
textures_by c true e = record { none = refl; wide = words_length words2 2 (λ x. refl) (uv_of c); joins = words_append words2 2 (λ x. refl) (uv_of c) }
textures_by c false e = record { none = refl; wide = λ vs. sym (zero-mul (length vs)); joins = λ vs us. refl }

textures_stream : (c : GeomCtx) → Stream (texture_width c) (texture_words c)
unfolding textures_of
textures_stream c = textures_by c c.need_uvs refl

pub positions_length : (vs : List Vert) → length (position_words vs) ≡ 3 * length vs
positions_length = positions_stream.wide

pub normals_length : (vs : List Vert) → length (normal_words vs) ≡ 3 * length vs
normals_length = normals_stream.wide

pub textures_length : (c : GeomCtx) (vs : List Vert) → length (texture_words c vs) ≡ texture_width c * length vs
textures_length c = (textures_stream c).wide

module _ {n : ℕ} {W : List Vert → List ℕ} (S : Stream n W) (l : List ℕ) (k : ℕ) where
  stream_none : l ≡ spliced l (n * k) (W [])
  stream_none = splice_start l (n * k) ∙ ap (spliced l (n * k)) (sym S.none)

  stream_size : (vs : List Vert) → n * (k + length vs) ≤ length l → length (spliced l (n * k) (W vs)) ≡ length l
  stream_size vs h = put_size l (n * k) (W vs) refl (S.wide vs) (omega (arith, mul-add n k (length vs)))

  stream_more : (vs us : List Vert) → n * (k + length vs + length us) ≤ length l
      → spliced (spliced l (n * k) (W vs)) (n * (k + length vs)) (W us) ≡ spliced l (n * k) (W (vs ++ us))
  stream_more vs us h =
      let a = mul-add n k (length vs) in
      let b = mul-add n (k + length vs) (length us) in
      let p = S.wide vs in
      let q = S.wide us in
      splice_more l (n * k) (n * (k + length vs)) (W vs) (W us) (omega arith) (omega arith) ∙ ap (spliced l (n * k)) (sym (S.joins vs us))

-- ---- the three slices

-- s' has slices as long as those of s
abbrev pub SameSizes : Streams → Streams → Type 0
SameSizes s s' = (length s'.positions ≡ length s.positions) × (length s'.normals ≡ length s.normals) × (length s'.textures ≡ length s.textures)

module _ (c : GeomCtx) where
  pub room_less : {m m' : ℕ} {s : Streams} → m ≤ m' → RoomFor c m' s → RoomFor c m s
  room_less h R =
      let t = mul-le-mul_left (texture_width c) h in
      record { positions = omega (arith, R.positions); normals = omega (arith, R.normals); textures = omega (arith, R.textures) }

  pub pushed_none : (k : ℕ) (s : Streams) → s ≡ pushed c k [] s
  unfolding pushed
  pushed_none k s = λ i. record {
    positions = stream_none positions_stream s.positions k i;
    normals = stream_none normals_stream s.normals k i;
    textures = stream_none (textures_stream c) s.textures k i;
  }

  pub pushed_more : (k : ℕ) (vs us : List Vert) (s : Streams) → RoomFor c (k + length vs + length us) s → pushed c (k + length vs) us (pushed c k vs s) ≡ pushed c k (vs ++ us) s
  unfolding pushed
  pushed_more k vs us s R = λ i. record {
    positions = stream_more positions_stream s.positions k vs us R.positions i;
    normals = stream_more normals_stream s.normals k vs us R.normals i;
    textures = stream_more (textures_stream c) s.textures k vs us R.textures i;
  }

  -- what is written leaves the slices as long as they are
  pub pushed_sizes : (k : ℕ) (vs : List Vert) (s : Streams) → RoomFor c (k + length vs) s → SameSizes s (pushed c k vs s)
  unfolding pushed
  pushed_sizes k vs s R = (
    stream_size positions_stream s.positions k vs R.positions,
    stream_size normals_stream s.normals k vs R.normals,
    stream_size (textures_stream c) s.textures k vs R.textures,
  )

  pub pushed_room : {m : ℕ} (k : ℕ) (vs : List Vert) (s : Streams) → k + length vs ≤ m → RoomFor c m s → RoomFor c m (pushed c k vs s)
  pushed_room k vs s h R =
      let z = pushed_sizes k vs s (room_less h R) in
      record { positions = omega (arith, z.0, R.positions); normals = omega (arith, z.1, R.normals); textures = omega (arith, z.2, R.textures) }

  -- the same of slices that were written
  pub next_room : {m : ℕ} (k : ℕ) (vs : List Vert) {s s' : Streams} → k + length vs ≤ m → RoomFor c m s → s' ≡ pushed c k vs s → RoomFor c m s'
  next_room k vs {s} h R e = rw e (pushed_room k vs s h R)

  -- one vertex more
  pub pushed_next : (k : ℕ) (vs : List Vert) (w : Vert) {s s' s'' : Streams} → RoomFor c (k + length vs + 1) s → s' ≡ pushed c k vs s → s'' ≡ pushed c (k + length vs) (w ∷ []) s'
      → s'' ≡ pushed c k (vs ++ w ∷ []) s
  pushed_next k vs w {s} R e₁ e₂ = e₂ ∙ ap (pushed c (k + length vs) (w ∷ [])) e₁ ∙ pushed_more k vs (w ∷ []) s R

-- ---- one vertex

module _ (c : GeomCtx) (k : ℕ) (v : Vert) (p n : List ℕ) {p' n' : List ℕ} (ep : p' ≡ spliced p (3 * k) (words3 (bits v.position))) (en : n' ≡ spliced n (3 * k) (words3 (bits v.normal))) where
  pub push_one : (t : List ℕ) {t' : List ℕ} {w : Words2} → c.need_uvs ≡ true → w ≡ uv_of c v → t' ≡ spliced t (2 * k) (w.s ∷ w.t ∷ [])
      → record { positions = p'; normals = n'; textures = t' } ≡ pushed c k (v ∷ []) (record { positions = p; normals = n; textures = t })
  unfolding pushed positions_of normals_of textures_of flat uv_of
  push_one t {t'} {w} e ew et =
      let q : t' ≡ spliced t (texture_width c * k) (texture_words c (v ∷ [])) = rw e (et ∙ ap (λ (u : Words2). spliced t (2 * k) (u.s ∷ u.t ∷ [])) ew) in
      λ i. record { positions = ep i; normals = en i; textures = q i }

  pub push_plain : (t : List ℕ) → c.need_uvs ≡ false → record { positions = p'; normals = n'; textures = t } ≡ pushed c k (v ∷ []) (record { positions = p; normals = n; textures = t })
  unfolding pushed positions_of normals_of textures_of flat
  push_plain t e =
      let q : t ≡ spliced t (texture_width c * k) (texture_words c (v ∷ [])) = rw e (splice_start t (0 * k)) in
      λ i. record { positions = ep i; normals = en i; textures = q i }
