use mathlib.Core.Path.{sym, ap, ◌∙◌}
use mathlib.Core.Bool.{false}
use mathlib.Core.List.{List}
use Prim.Native.Nat.{ℕ, ◌≤◌, ◌/◌}
use native.Mathlib.Omega.{arith}
use lib.ListN.{length}
use Rattle.lists.specs.Lists.{flat}
use Rattle.lists.specs.Parts.{spliced}
use Rattle.lists.proofs.Tabs.{map_tab}
use Rattle.mesh.specs.Words.{words4}
use Rattle.pointset.specs.PointSet.{colour_at}
use Rattle.pointset.proofs.Copied.{colours_copied}
use Rattle.pointset.proofs.copies.put_colours.Goals as goal

pub copy_words-requires : goal.copy_words-requires
copy_words-requires c =
    let R = rw c.in-Some.is at c.requires.1 in
    let q : c.args.n ≤ length c.in-Some.l.words.now / 4 = rw c.if-l.true at R.0 in
    (omega (arith, q), R.1)

pub returns-then-l : goal.returns-then-l
returns-then-l c =
    let q : c.args.n ≤ length c.in-Some.l.words.now / 4 = rw c.if-l.true at (rw c.in-Some.is at c.requires.1).0 in
    rw (c.in-Some.is, c.if-l.true) (c.copy_words.ensures ∙ ap (spliced c.args.colours.now 0) (sym (colours_copied c.in-Some.l.words.now c.args.n (omega arith))))

pub put_opaques-requires : goal.put_opaques-requires
put_opaques-requires c =
    let R = rw c.in-Some.is at c.requires.1 in
    let q : c.args.n ≤ length c.in-Some.l.words.now / 3 = rw c.if-l.false at R.0 in
    (c.requires.0, omega (arith, q), omega (arith, R.1))

pub returns-else-l : goal.returns-else-l
unfolding colour_at
returns-else-l c =
    rw (c.in-Some.is, c.if-l.false) (c.put_opaques.ensures ∙ ap (λ (r : List (List ℕ)). spliced c.args.colours.now 0 (flat r)) (sym (map_tab (colour_at false c.in-Some.l.words.now) words4 c.args.n 0)))
