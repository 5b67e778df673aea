use mathlib.Core.Path.{refl, sym}
use Prim.Native.Nat.{◌+◌}
use native.Mathlib.Omega.{arith}
use Rattle.lists.specs.Parts.{seg}
use Rattle.lists.proofs.Lists.{three_at}
use Rattle.lists.proofs.Keep.{part_seg}
use Rattle.lists.proofs.Words.{seg_two, seg_four}
use Rattle.vertices.proofs.parts.put_words.Goals as goal

pub returns-then-n-eq3 : goal.returns-then-n-eq3
unfolding seg
returns-then-n-eq3 c =
    rw (c.if-n-eq3.true, three_at 0 c.args.src.now c.args.j (omega (arith, c.requires.1, c.if-n-eq3.true)))
    c.put_all.ensures

pub returns-then-n-eq4 : goal.returns-then-n-eq4
returns-then-n-eq4 c =
    rw (c.if-n-eq4.true, seg_four c.args.src.now c.args.j (omega (arith, c.requires.1, c.if-n-eq4.true)))
    c.put_all-then-n-eq4.ensures

pub returns-then-n-eq2 : goal.returns-then-n-eq2
returns-then-n-eq2 c =
    rw (c.if-n-eq2.true, seg_two c.args.src.now c.args.j (omega (arith, c.requires.1, c.if-n-eq2.true)))
    c.put_all-then-n-eq2.ensures

pub returns : goal.returns
returns c = rw (sym (part_seg c.args.src.now c.args.j (c.args.j + c.args.n) c.args.n refl)) c.put_all-2.ensures
