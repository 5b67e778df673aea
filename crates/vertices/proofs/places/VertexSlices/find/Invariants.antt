use Prim.Native.Nat.{ℕ}
use Rattle.vertices.specs.Places.{store_in}
use Rattle.vertices.specs.Search.{corner_key, bucket_at, Chained}
use Rattle.vertices.proofs.Seek.{up_to}
use Rattle.vertices.proofs.ChainLaws.{Met}
use Rattle.vertices.proofs.places.VertexSlices.find.Given as goal

-- the code does not read n, so it is any n whose vertices are chained
abbrev pub invariant-loop-x : goal.invariant-loop-x
invariant-loop-x l =
    (n : ℕ) → Chained l.t (bucket_at l.w l.t (store_in l.self)) l.work n
    → Met l.w l.t (store_in l.self) (corner_key l.w l.key.point.0 l.key.words.now) n l.x

abbrev pub decreases-loop-x : goal.decreases-loop-x
decreases-loop-x l = up_to l.x
