-- FORMAT 6.2, 8.1: the listings of the kept faces: how many, what each has, and that the faces made of them are those of the mesh.
use mathlib.Core.Path.{◌≡◌, refl, ap, ◌∙◌}
use mathlib.Core.Bool.{Bool, true, false, cond}
use mathlib.Core.List.{List, [], ◌∷◌, ◌++◌, map}
use Prim.Native.Nat.{ℕ, suc, ◌+◌, ◌≤◌, ◌<◌}
use native.Mathlib.Nat.{not-suc-le-zero}
use native.Mathlib.Omega.{arith}
use lib.ListN.{length, get_or, length-append}
use Rattle.bits.specs.Bits.{entries}
use Rattle.bits.specs.declared.Words4.{Words4}
use Rattle.block.specs.Runs.{Run, run_of, runs, kept, faces, sum_over}
use Rattle.block.proofs.RunLaws.{kept_long, kept_below}
use Rattle.lists.specs.Loops.{All}
use Rattle.lists.specs.Lists.{map_n, join_n}
use Rattle.mesh.specs.Soup.{Face, dense}
use Rattle.mesh.specs.FaceSet.{Rest, point_count, corner_of, face_of, faces_of}
use Rattle.lists.proofs.Lists.{All_join_n, length_map_n, get_or_map_n}
use Rattle.tables.specs.Listed.{Use, no_use, Listing, faces_with}
use Rattle.faceset.specs.Listings.{use_of, listing_of, listed, listings_of, corner_use}

-- ---- the first of the runs, and the rest

module _ (points n : ℕ) (r : Run) (rs : List Run) where
  pub listings_kept : kept points r.items ≡ true → join_n (listed points) n (r ∷ rs) ≡ listing_of n r ∷ join_n (listed points) (suc n) rs
  unfolding join_n listed
  listings_kept e = rw e

  pub listings_lost : kept points r.items ≡ false → join_n (listed points) n (r ∷ rs) ≡ join_n (listed points) (suc n) rs
  unfolding join_n listed
  listings_lost e = rw e

-- ---- how many there are

pub length_listings : (points n : ℕ) (rs : List Run) → length (join_n (listed points) n rs) ≡ sum_over (faces points) rs
unfolding join_n sum_over listed faces
length_listings points n [] = refl
length_listings points n (r ∷ rs) = length-append (listed points n r) (join_n (listed points) (suc n) rs) ∙ (λ i. one (kept points r.items) i + length_listings points (suc n) rs i)
  where
    one : (b : Bool) → length (cond b (listing_of n r ∷ []) []) ≡ cond b 1 0
    one true = refl
    one false = refl

-- ---- what each has

listings_all : (P : Listing → Type 0) (points : ℕ) → ((n : ℕ) (r : Run) → kept points r.items ≡ true → P (listing_of n r)) → (ws : List ℕ) → All P (listings_of points ws)
unfolding listings_of listed
listings_all P points h ws = All_join_n P (listed points) (run_of 0 []) 0 (runs ws) (λ j b. one (0 + j) (get_or (runs ws) j (run_of 0 [])) (kept points (get_or (runs ws) j (run_of 0 [])).items) refl)
  where
    one : (n : ℕ) (r : Run) (b : Bool) → kept points r.items ≡ b → All P (cond b (listing_of n r ∷ []) [])
    one n r true e = (h n r e, tt)
    one n r false e = tt

-- three corners or more
pub listings_long : (points : ℕ) (ws : List ℕ) → All (λ (l : Listing). 3 ≤ length l.uses) (listings_of points ws)
listings_long points ws = listings_all (λ (l : Listing). 3 ≤ length l.uses) points
    (λ n r e. let k = kept_long points r.items e in omega (arith, length_map_n use_of r.start r.items)) ws

-- use i of a run
pub used_at : (s : ℕ) (es : List ℕ) (i : ℕ) → i < length es → get_or (map_n use_of s es) i no_use ≡ use_of (s + i) (get_or es i 0)
used_at s es i h = get_or_map_n use_of s es i no_use 0 h

uses_below : (points s : ℕ) (es : List ℕ) → ((k : ℕ) → k < length es → get_or es k 0 < points) → All (λ (u : Use). u.point < points) (map_n use_of s es)
unfolding map_n
uses_below points s [] h = tt
uses_below points s (e ∷ es) h = (h 0 (omega arith), uses_below points (suc s) es (λ k b. h (suc k) (omega arith)))

-- each at a point
pub listings_below : (points : ℕ) (ws : List ℕ) → All (λ (l : Listing). All (λ (u : Use). u.point < points) l.uses) (listings_of points ws)
listings_below points ws = listings_all (λ (l : Listing). All (λ (u : Use). u.point < points) l.uses) points
    (λ n r e. uses_below points r.start r.items (kept_below points r.items e)) ws

-- ---- the faces made of them

dense_full : (f : Face) (fs : List Face) → 0 < length f → dense (f ∷ fs) ≡ f ∷ dense fs
unfolding dense
dense_full [] fs h = absurd (not-suc-le-zero h)
dense_full (c ∷ cs) fs h = refl

module _ (missing : Words4) (R : Rest) (coord : List ℕ) where
  corners_used : (num s : ℕ) (es : List ℕ) → map_n (corner_of missing R coord num) s es ≡ map (corner_use missing R coord num) (map_n use_of s es)
  unfolding map_n corner_of corner_use
  corners_used num s [] = refl
  corners_used num s (e ∷ es) = ap (λ (f : Face). corner_use missing R coord num (use_of s e) ∷ f) (corners_used num (suc s) es)

  dense_from : (n : ℕ) (rs : List Run) → dense (map_n (face_of missing R coord) n rs) ≡ faces_with (corner_use missing R coord) (join_n (listed (point_count R.head)) n rs)
  unfolding dense map_n join_n faces_with face_of listed
  dense_from n [] = refl
  dense_from n (r ∷ rs) = one (kept (point_count R.head) r.items) refl (dense_from (suc n) rs)
    where
      one : (b : Bool) → kept (point_count R.head) r.items ≡ b
          → dense (map_n (face_of missing R coord) (suc n) rs) ≡ faces_with (corner_use missing R coord) (join_n (listed (point_count R.head)) (suc n) rs)
          → dense (cond b (map_n (corner_of missing R coord n) r.start r.items) [] ∷ map_n (face_of missing R coord) (suc n) rs)
          ≡ faces_with (corner_use missing R coord) (cond b (listing_of n r ∷ []) [] ++ join_n (listed (point_count R.head)) (suc n) rs)
      one true e ih =
          let k = kept_long (point_count R.head) r.items e in
          dense_full (map_n (corner_of missing R coord n) r.start r.items) (map_n (face_of missing R coord) (suc n) rs)
          (omega (arith, length_map_n (corner_of missing R coord n) r.start r.items))
          ∙ (λ i. corners_used n r.start r.items i ∷ ih i)
      one false e ih = ih

  -- FORMAT 6.2, 8.1: the kept faces of the face set, numbered without gaps, are those listed
  pub dense_listed : dense (faces_of missing R coord) ≡ faces_with (corner_use missing R coord) (listings_of (point_count R.head) (entries coord))
  unfolding faces_of listings_of
  dense_listed = dense_from 0 (runs (entries coord))
