use Rattle.std.proofs.Common.{rules, ◌≡◌, ◌<◌, ◌∙◌, take, length, get_or, suc, [], ◌∷◌, ◌++◌}
use native.Mathlib.Omega.{arith}
use lib.ListN.{length-append, length-take}
use lib.Seq.{get_or-take}
use Rattle.std.proofs.lemmas.Slice.Zip.{zip_turn}
use Rattle.block.specs.Extents.{words_in}
use Rattle.block.proofs.ExtentLaws.{words_more}
use Rattle.block.proofs.extents.words_before.Goals as goal

pub loop-width-init : goal.loop-width-init
unfolding words_in
loop-width-init c = search rules

pub loop-width-preserved : goal.loop-width-preserved
loop-width-preserved c =
    let i = length c.loop-width.yielded in
    let t = zip_turn (take c.args.k c.args.w) c.args.n c.loop-width.yielded c.into_iter-width-iterator.result c.loop-width.width-iterator c.next.new.self _ (cc) (cc) c.loop-width.yielded_by _ c.in-Some.is c.next.ensures.steps in
    let l : i < c.args.k = omega (arith, t.0, length-take c.args.k c.args.w) in
    let a : c.in-Some.width.now ≡ get_or c.args.w i 0 = t.2 0 ∙ get_or-take c.args.k c.args.w i 0 l in
    let m : length (c.loop-width.yielded ++ (c.in-Some.width, c.in-Some.count) ∷ []) ≡ suc i = length-append c.loop-width.yielded ((c.in-Some.width, c.in-Some.count) ∷ []) ∙ omega arith in
    rw m (omega (arith, l, c.requires), omega (arith, c.loop-width.invariant, c.list_words-t.ensures), rw (words_more, ← a, ← (t.3 0)) (omega (arith, c.loop-width.invariant, c.list_words-t.ensures)))
