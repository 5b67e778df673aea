-- FORMAT 19.1: the triangle of three indices, met in the walk over all of them, is that of its number; and they name vertices as all do.
use mathlib.Core.Path.{◌≡◌, refl}
use mathlib.Core.Bool.{false}
use mathlib.Core.List.{List}
use Prim.Native.Nat.{ℕ, ◌+◌, ◌*◌, ◌<◌}
use native.Mathlib.Omega.{arith}
use lib.Dec.{leb}
use lib.ListN.{length, get_or}
use Rattle.lists.specs.Loops.{any}
use Rattle.lists.proofs.Putting.{Split}
use Rattle.lists.proofs.Chunked.{Chunked, chunked_here, chunked_at}
use Rattle.lists.proofs.Searches.{below_at}
use Rattle.math.specs.Vector.{vsub}
use Rattle.paths.specs.Paths.{point_in, triangle_in}

module _ (p : List ℕ) {indices rest after : List ℕ} {t : ℕ} (C : Chunked 3 indices t rest) (S : Split rest p after) (m : length p ≡ 3) where
  pub corners_inside : {n : ℕ} → any (leb n) indices ≡ false → (k : ℕ) → k < 3 → get_or p k 0 < n
  corners_inside {n} e k h =
      let w = chunked_here p C S m (omega arith) in
      omega (arith, chunked_at p C S m 0 k _ h refl, below_at n indices (t * 3 + k) e (omega arith))

  pub triangle_here : (positions : List ℕ) → triangle_in positions p 0 ≡ triangle_in positions indices t
  unfolding triangle_in
  triangle_here positions =
      let a = chunked_at p C S m 0 0 (t * 3) (omega arith) (omega arith) in
      let b = chunked_at p C S m 0 1 (t * 3 + 1) (omega arith) refl in
      let c = chunked_at p C S m 0 2 (t * 3 + 2) (omega arith) refl in
      λ i. record {
        vert0 = point_in positions (a i);
        edge1 = vsub (point_in positions (b i)) (point_in positions (a i));
        edge2 = vsub (point_in positions (c i)) (point_in positions (a i));
      }
