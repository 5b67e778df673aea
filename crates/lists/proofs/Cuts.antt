-- A part of a list that is there or not.
use Prim.Native.Nat.{ℕ}
use mathlib.Core.Path.{◌≡◌, refl, ap, ◌∙◌}
use mathlib.Core.Bool.{Bool, true, false, cond}
use mathlib.Core.List.{List, []}
use lib.ListN.{take, drop}
use lib.Seq.{take-nil, drop-nil}

pub part_where : {A : Type 0} (b : Bool) (n k : ℕ) (l : List A) → take n (drop k (cond b l [])) ≡ cond b (take n (drop k l)) []
part_where true n k l = refl
part_where false n k l = ap (take n) (drop-nil k) ∙ take-nil n
