use Prim.Native.Nat.{ℕ, ◌+◌, ◌/◌, ◌≤◌, ◌<◌}
use mathlib.Core.Path.{refl, sym, ◌∙◌}
use native.Mathlib.Omega.{arith}
use lib.ListN.{length, get_or}
use Rattle.std.proofs.Common.{rules}
use Rattle.std.proofs.iter.Serving.{serving}
use Rattle.bits.specs.Bits.{entries}
use Rattle.bits.proofs.Entries.{entries_length}
use Rattle.block.proofs.RunLaws.{kept_below}
use Rattle.lists.specs.Lists.{map_n}
use Rattle.lists.proofs.Lists.{length_map_n}
use Rattle.block.specs.Edition.{most}
use Rattle.faceset.specs.Listings.{use_of}
use Rattle.faceset.specs.Adding.{words_after, progress_after}
use Rattle.faceset.proofs.Faces.{used_at}
use Rattle.faceset.proofs.Writing.{face_put_is}
use Rattle.faceset.proofs.listing.pass_run.Goals as goal

pub put_face-requires-clause-points : goal.put_face-requires-clause-points
put_face-requires-clause-points c =
    let es = entries c.args.run.now in
    let l = entries_length c.args.run.now in
    let k : (i : ℕ) → i < length c.args.run.now / 4 → get_or es i 0 ≤ most = λ i h.
    let b = kept_below _ es (sym c.is_kept.ensures ∙ c.if-is_kept.true) i (omega arith) in omega (arith, b, c.requires.room.some, c.requires.spots) in
    grind (serving, k)

pub returns-then-is_kept : goal.returns-then-is_kept
unfolding words_after progress_after
returns-then-is_kept c =
    let es = entries c.args.run.now in
    let e = sym c.is_kept.ensures ∙ c.if-is_kept.true in
    let l = entries_length c.args.run.now in
    let us = map_n use_of c.args.start es in (
      rw e (face_put_is (λ i. get_or es i 0) (λ i. c.args.start + i) c.put_face.ensures us (length_map_n use_of c.args.start es ∙ l) (λ i b. used_at c.args.start es i (omega arith)) (λ i v b h. search rules) (λ i v b h. search rules)),
      rw e c.put_face.ensures.next,
    )

pub returns : goal.returns
unfolding words_after progress_after
returns c = let e = sym c.is_kept.ensures ∙ c.if-is_kept.false in (rw e refl, rw e refl)
