use Prim.Native.Nat.{ℕ, ◌+◌, ◌≤◌, ◌<◌}
use mathlib.Core.Path.{◌≡◌, refl, sym, ◌∙◌}
use native.Mathlib.Omega.{arith}
use lib.ListN.{length, get_or}
use Rattle.std.proofs.Common.{rules}
use Rattle.std.proofs.iter.Serving.{serving}
use Rattle.bits.specs.Bits.{entries}
use Rattle.block.specs.Edition.{most}
use Rattle.block.specs.Runs.{run_of}
use Rattle.primitives.specs.Primitives.{places_of}
use Rattle.primitives.specs.Kept.{width_of}
use Rattle.faceset.specs.Adding.{words_after, progress_after}
use Rattle.faceset.proofs.Writing.{face_put_is}
use Rattle.primitiveset.specs.Listings.{uses_of}
use Rattle.primitiveset.proofs.Faces.{used_at, uses_long}
use Rattle.primitiveset.proofs.Writing.{few_here, point_low, place_low}
use Rattle.primitiveset.proofs.listing.pass_primitive.Goals as goal

pub is_present-requires : goal.is_present-requires
is_present-requires c = few_here c.args.x.g c.args.x.list.now c.requires.there (omega arith)

pub put_face-requires-clause-points : goal.put_face-requires-clause-points
put_face-requires-clause-points c =
    let g = c.args.x.g in
    let es = entries c.args.x.list.now in
    let k = c.args.k in
    let e = sym c.is_present.ensures ∙ c.if-is_present.true in
    let n = c.width_of.ensures in
    let few = few_here g c.args.x.list.now c.requires.there (omega arith) in
    let low : (i p v : ℕ) → i < width_of g → p ≡ get_or (places_of g k) i 0 → v ≡ get_or es p 0 → v ≤ most = λ i p v h ep ev.
    let b = point_low g es k i h ep ev e in omega (arith, b, c.requires.room.some, c.requires.spots) in
    grind (serving, n, few, low)

pub put_face-requires-clause-places : goal.put_face-requires-clause-places
put_face-requires-clause-places c =
    let g = c.args.x.g in
    let es = entries c.args.x.list.now in
    let k = c.args.k in
    let n = c.width_of.ensures in
    let few = few_here g c.args.x.list.now c.requires.there (omega arith) in
    let low : (i p : ℕ) → i < width_of g → p ≡ get_or (places_of g k) i 0 → c.args.start + p ≤ most = λ i p h ep.
    let b = place_low g (length es) k i c.requires.there h ep in omega (arith, b, c.requires.places) in
    grind (serving, n, few, low)

pub returns-then-is_present : goal.returns-then-is_present
unfolding words_after progress_after
returns-then-is_present c =
    let g = c.args.x.g in
    let es = entries c.args.x.list.now in
    let k = c.args.k in
    let e = sym c.is_present.ensures ∙ c.if-is_present.true in
    let r = run_of c.args.start es in
    let n = c.width_of.ensures in (
      rw e (face_put_is (λ i. get_or es (get_or (places_of g k) i 0) 0) (λ i. c.args.start + get_or (places_of g k) i 0) c.put_face.ensures (uses_of g r k) (uses_long g r k ∙ sym n)
          (λ i b. used_at g r k i (omega arith)) (λ i v b h. search rules) (λ i v b h. search rules)),
      rw e (rw n at c.put_face.ensures.next),
    )

pub returns : goal.returns
unfolding words_after progress_after
returns c = let e = sym c.is_present.ensures ∙ c.if-is_present.false in (rw e refl, rw e refl)
