-- The rays of the paths, put one after the other. Assumes nothing.
use mathlib.Core.Path.{◌≡◌, refl, sym, ap, ◌∙◌}
use mathlib.Core.List.{List}
use mathlib.Core.Logic.{⊎_elim}
use Prim.Native.Nat.{ℕ, ◌+◌, ◌*◌, ◌≤◌, ◌<◌}
use native.Mathlib.Nat.{not-suc-le-zero}
use native.Mathlib.Omega.{arith}
use lib.Ieee.{Float, nan}
use lib.ListN.{length, get_or, set, length-set}
use lib.Seq.{get_or-set_same, get_or-set_other}
use Rattle.lists.proofs.Numbers.{last_or}
use Rattle.lists.proofs.Putting.{Split}
use Rattle.lists.proofs.Chunked.{Chunked, chunked_at}
use Rattle.math.specs.declared.vector.V3.{V3}
use Rattle.math.specs.Vector.{v3, vsub}
use Rattle.mesh.specs.Words.{floats, point_words}
use Rattle.paths.specs.Paths.{point_in, ray_in}
use Rattle.paths.specs.Pass.{spot_at, stored, ray_at, Loaded}

module _ (l : List Float) (k : ℕ) (v : V3) where
  pub length_stored : length (stored l k v) ≡ length l
  length_stored = length-set (set (set l k v.x) (k + 64) v.y) (k + 128) v.z ∙ length-set (set l k v.x) (k + 64) v.y ∙ length-set l k v.x

  elsewhere : (i : ℕ) → (i ≡ k → ⊥) → (i ≡ k + 64 → ⊥) → (i ≡ k + 128 → ⊥) → get_or (stored l k v) i nan ≡ get_or l i nan
  elsewhere i p q r =
      get_or-set_other (set (set l k v.x) (k + 64) v.y) (k + 128) i v.z nan r
      ∙ get_or-set_other (set l k v.x) (k + 64) i v.y nan q
      ∙ get_or-set_other l k i v.x nan p

  -- a vector none of whose places is one of these stays
  pub spot_other : (i : ℕ) → ((a b : ℕ) → a ≤ 2 → b ≤ 2 → i + 64 * a ≡ k + 64 * b → ⊥) → spot_at (stored l k v) i ≡ spot_at l i
  unfolding spot_at
  spot_other i h = λ n. v3 (x n) (y n) (z n)
    where
      apart : (a b p q : ℕ) → a ≤ 2 → b ≤ 2 → p ≡ i + 64 * a → q ≡ k + 64 * b → p ≡ q → ⊥
      apart a b p q la lb ep er e = h a b la lb (sym ep ∙ e ∙ er)

      x : get_or (stored l k v) i nan ≡ get_or l i nan
      x = elsewhere i (apart 0 0 i k (omega arith) (omega arith) (omega arith) (omega arith)) (apart 0 1 i (k + 64) (omega arith) (omega arith) (omega arith) (omega arith)) (apart 0 2 i (k + 128) (omega arith) (omega arith) (omega arith) (omega arith))

      y : get_or (stored l k v) (i + 64) nan ≡ get_or l (i + 64) nan
      y = elsewhere (i + 64) (apart 1 0 (i + 64) k (omega arith) (omega arith) (omega arith) (omega arith)) (apart 1 1 (i + 64) (k + 64) (omega arith) (omega arith) (omega arith) (omega arith)) (apart 1 2 (i + 64) (k + 128) (omega arith) (omega arith) (omega arith) (omega arith))

      z : get_or (stored l k v) (i + 128) nan ≡ get_or l (i + 128) nan
      z = elsewhere (i + 128) (apart 2 0 (i + 128) k (omega arith) (omega arith) (omega arith) (omega arith)) (apart 2 1 (i + 128) (k + 64) (omega arith) (omega arith) (omega arith) (omega arith)) (apart 2 2 (i + 128) (k + 128) (omega arith) (omega arith) (omega arith) (omega arith))

  pub spot_same : k + 128 < length l → spot_at (stored l k v) k ≡ v
  unfolding spot_at
  spot_same h = λ n. v3 (x n) (y n) (z n)
    where
      x : get_or (stored l k v) k nan ≡ v.x
      x = get_or-set_other (set (set l k v.x) (k + 64) v.y) (k + 128) k v.z nan (λ e. omega arith)
          ∙ get_or-set_other (set l k v.x) (k + 64) k v.y nan (λ e. omega arith)
          ∙ get_or-set_same l k v.x nan (omega arith)

      y : get_or (stored l k v) (k + 64) nan ≡ v.y
      y = get_or-set_other (set (set l k v.x) (k + 64) v.y) (k + 128) (k + 64) v.z nan (λ e. omega arith)
          ∙ get_or-set_same (set l k v.x) (k + 64) v.y nan (omega (arith, length-set l k v.x))

      z : get_or (stored l k v) (k + 128) nan ≡ v.z
      z = get_or-set_same (set (set l k v.x) (k + 64) v.y) (k + 128) v.z nan
          (omega (arith, length-set (set l k v.x) (k + 64) v.y, length-set l k v.x))

-- ---- one ray more, at j

module _ (rays : List Float) (j : ℕ) (o d : V3) where
  abbrev both : List Float
  both = stored (stored rays j o) (j + 192) d

  -- the rays before it stay
  ray_other : (i : ℕ) → i < j → j < 64 → ray_at both i ≡ ray_at rays i
  unfolding ray_at
  ray_other i less few = λ n. record { orig = orig n; dir = dir n }
    where
      orig : spot_at both i ≡ spot_at rays i
      orig = spot_other (stored rays j o) (j + 192) d i (λ (a b : ℕ) (p : a ≤ 2) (q : b ≤ 2) (e : i + 64 * a ≡ j + 192 + 64 * b). omega arith)
          ∙ spot_other rays j o i (λ (a b : ℕ) (p : a ≤ 2) (q : b ≤ 2) (e : i + 64 * a ≡ j + 64 * b). omega arith)

      dir : spot_at both (i + 192) ≡ spot_at rays (i + 192)
      dir = spot_other (stored rays j o) (j + 192) d (i + 192) (λ (a b : ℕ) (p : a ≤ 2) (q : b ≤ 2) (e : i + 192 + 64 * a ≡ j + 192 + 64 * b). omega arith)
          ∙ spot_other rays j o (i + 192) (λ (a b : ℕ) (p : a ≤ 2) (q : b ≤ 2) (e : i + 192 + 64 * a ≡ j + 64 * b). omega arith)

  ray_same : j < 64 → length rays ≡ 384 → ray_at both j ≡ record { orig = o; dir = d }
  unfolding ray_at
  ray_same l s = λ n. record { orig = orig n; dir = dir n }
    where
      orig : spot_at both j ≡ o
      orig = spot_other (stored rays j o) (j + 192) d j (λ (a b : ℕ) (p : a ≤ 2) (q : b ≤ 2) (e : j + 64 * a ≡ j + 192 + 64 * b). omega arith)
          ∙ spot_same rays j o (omega arith)

      dir : spot_at both (j + 192) ≡ d
      dir = spot_same (stored rays j o) (j + 192) d (omega (arith, length_stored rays j o))

-- of m rays j are put
pub record Loading (paths : List ℕ) (m : ℕ) (rays₀ : List Float) (j : ℕ) (rays : List Float) : Type 0 where
  pub so_far : j ≤ m
  pub size : length rays ≡ length rays₀
  pub loaded : Loaded paths rays j

module _ {paths : List ℕ} {m : ℕ} {rays₀ : List Float} where
  pub loading_none : Loading paths m rays₀ 0 rays₀
  unfolding Loaded
  loading_none = record { so_far = omega arith; size = refl; loaded = λ (j : ℕ) (h : j < 0). absurd (not-suc-le-zero h) }

  pub loading_more : {rays mid left : List Float} {j : ℕ} {from to dir : V3} → Loading paths m rays₀ j rays → j < m → m ≤ 64 → length rays₀ ≡ 384
      → from ≡ point_in paths (2 * j) → to ≡ point_in paths (2 * j + 1) → dir ≡ vsub to from
      → mid ≡ stored rays j from → left ≡ stored mid (j + 192) dir → Loading paths m rays₀ (j + 1) left
  unfolding Loaded ray_in
  loading_more {rays} {mid} {left} {j} {from} {to} {dir} L b few s ef et ed em el = record {
    so_far = omega arith;
    size = ap length is ∙ length_stored (stored rays j from) (j + 192) dir ∙ length_stored rays j from ∙ L.size;
    loaded = λ (i : ℕ) (q : i < j + 1).
        ap (λ (x : List Float). ray_at x i) is
        ∙ ⊎_elim (λ (e : i ≡ j). last i e) (λ (l : i < j). ray_other rays j from dir i l (omega arith) ∙ L.loaded i l) (last_or i j q);
  }
    where
      is : left ≡ stored (stored rays j from) (j + 192) dir
      is = el ∙ ap (λ (x : List Float). stored x (j + 192) dir) em

      last : (i : ℕ) → i ≡ j → ray_at (stored (stored rays j from) (j + 192) dir) i ≡ ray_in paths i
      last i q =
          ap (λ (k : ℕ). ray_at (stored (stored rays j from) (j + 192) dir) k) q
          ∙ ray_same rays j from dir (omega arith) (L.size ∙ s)
          ∙ (λ n. record { orig = ef n; dir = (ed ∙ (λ k. vsub (et k) (ef k))) n })
          ∙ ap (λ (k : ℕ). ray_in paths k) (sym q)

-- ---- the path of six words, met in the walk over all of them: its points are those of its number

module _ (p : List ℕ) {l rest after : List ℕ} {n : ℕ} (C : Chunked 6 l n rest) (S : Split rest p after) (m : length p ≡ 6) where
  pub point_here : (b q : ℕ) → b < 2 → 2 * n + b ≡ q → point_in p b ≡ point_in l q
  unfolding point_in point_words
  point_here b q h e =
      let x = chunked_at p C S m 0 (b * 3) (q * 3) (omega arith) (omega arith) in
      let y = chunked_at p C S m 0 (b * 3 + 1) (q * 3 + 1) (omega arith) (omega arith) in
      let z = chunked_at p C S m 0 (b * 3 + 2) (q * 3 + 2) (omega arith) (omega arith) in
      λ i. floats (record { x = x i; y = y i; z = z i })
