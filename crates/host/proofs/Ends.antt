-- FORMAT 15, 17.12: how a call ends: the answer's promise, under what its host gave, and what `answered` says.
use Prim.Native.Nat.{ℕ}
use mathlib.Core.Path.{◌≡◌, subst}
use mathlib.Core.Bool.{Bool}
use mathlib.Core.List.{List}
use lib.Ieee.{Float}
use Rattle.mesh.specs.Mesh.{Slices}
use Rattle.lent.specs.Answer.{Answer}
use Rattle.geometry.specs.declared.answer.Call.{Call}
use Rattle.geometry.specs.Converted.{Lending, Converted}
use Rattle.parts.specs.declared.vert.GeomCtx.{GeomCtx}
use Rattle.parts.specs.Part.{Part}
use Rattle.parts.specs.Parted.{Parted}
use Rattle.pointset.specs.PointSet.{PointSetCall}
use Rattle.host.specs.Hosted.{returned, result_after, Hosted}

ends : {promise : Answer → Type 0} (a : Answer) {x y : List ℕ} {r : ℕ} → promise a → (r ≡ returned a) × (y ≡ result_after a x) → Hosted promise x y r
ends a kept told = record { answer = a; kept = kept; number = told.0; result = told.1 }

-- k is what `convert` was called with
pub converted_ends : {k call : Call} {bs : List ℕ} {l m : Lending} {a : Answer} {x y : List ℕ} {r : ℕ}
    → k ≡ call → Converted k bs l m a → (r ≡ returned a) × (y ≡ result_after a x) → Hosted (Converted call bs l m) x y r
converted_ends {k} {call} {bs} {l} {m} {a} e C = ends a (subst (λ (z : Call). Converted z bs l m a) e C)

-- k and p are the context and the part that the call was of
pub part_ends : {k ctx : GeomCtx} {ps : List Float} {p part : Part} {l m : Slices} {a : Answer} {x y : List ℕ} {r : ℕ}
    → k ≡ ctx → p ≡ part → Parted k ps p l m a → (r ≡ returned a) × (y ≡ result_after a x) → Hosted (Parted ctx ps part l m) x y r
part_ends {k} {ctx} {ps} {p} {part} {l} {m} {a} e f C = ends a (subst (λ (z : Part). Parted ctx ps z l m a) f (subst (λ (z : GeomCtx). Parted z ps p l m a) e C))

-- h and s are the flags that it was called with
pub points_end : {ws cs : List ℕ} {h has s alpha : Bool} {l m : Slices} {a : Answer} {x y : List ℕ} {r : ℕ}
    → h ≡ has → s ≡ alpha → PointSetCall ws h s cs l m a → (r ≡ returned a) × (y ≡ result_after a x) → Hosted (PointSetCall ws has alpha cs l m) x y r
points_end {ws} {cs} {h} {has} {s} {alpha} {l} {m} {a} e f C = ends a (subst (λ (z : Bool). PointSetCall ws has z cs l m a) f (subst (λ (z : Bool). PointSetCall ws z s cs l m a) e C))
