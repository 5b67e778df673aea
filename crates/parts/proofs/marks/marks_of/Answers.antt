use mathlib.Core.Path.{◌≡◌, sym, subst, ◌∙◌}
use Prim.Native.Nat.{◌+◌}
use native.Mathlib.Omega.{arith}
use Rattle.parts.specs.Cap.{cap_sizes}
use Rattle.parts.specs.Sizes.{sizes_where, Small, piece_most}
use Rattle.parts.specs.Round.{marks_of}
use Rattle.parts.proofs.Parting.{where_small, some_small, cap_small, sum_small, sum_low}
use Rattle.parts.proofs.marks.marks_of.Goals as goal
use Rattle.parts.proofs.marks.marks_of.Goals.{then-top, else-top, then-bottom, else-bottom}

pub sum_sizes-b-requires : goal.sum_sizes-b-requires
unfolding sizes_where
sum_sizes-b-requires c =
    let T : c.if-top.upper ≡ sizes_where c.args.top (cap_sizes c.args.n) = elim c.if-top.branch [ then-top w ↦ rw w.if-top.true (w.upper-is ∙ w.cap_sizes-upper.ensures) | else-top w ↦ rw w.if-top.false w.upper-is ] in
    sum_low piece_most piece_most (rw c.unwrap_or-a.ensures (some_small piece_most _ c.requires.0)) (subst (Small piece_most) (sym T) (where_small piece_most _ _ (cap_small _ c.requires.1))) (omega arith) (omega arith)

pub sum_sizes-all-requires : goal.sum_sizes-all-requires
unfolding sizes_where
sum_sizes-all-requires c =
    let T : c.if-top.upper ≡ sizes_where c.args.top (cap_sizes c.args.n) = elim c.if-top.branch [ then-top w ↦ rw w.if-top.true (w.upper-is ∙ w.cap_sizes-upper.ensures) | else-top w ↦ rw w.if-top.false w.upper-is ] in
    let B : c.if-bottom.lower ≡ sizes_where c.args.bottom (cap_sizes c.args.n) = elim c.if-bottom.branch [ then-bottom w ↦ rw w.if-bottom.true (w.lower-is ∙ w.cap_sizes-lower.ensures) | else-bottom w ↦ rw w.if-bottom.false w.lower-is ] in
    sum_low (piece_most + piece_most) piece_most (rw c.sum_sizes-b.ensures (sum_small piece_most piece_most _ _ (rw c.unwrap_or-a.ensures (some_small piece_most _ c.requires.0)) (subst (Small piece_most) (sym T) (where_small piece_most _ _ (cap_small _ c.requires.1)))))
    (rw B (where_small piece_most _ _ (cap_small _ c.requires.1))) (omega arith) (omega arith)

pub returns : goal.returns
unfolding marks_of sizes_where
returns c =
    let T : c.if-top.upper ≡ sizes_where c.args.top (cap_sizes c.args.n) = elim c.if-top.branch [ then-top w ↦ rw w.if-top.true (w.upper-is ∙ w.cap_sizes-upper.ensures) | else-top w ↦ rw w.if-top.false w.upper-is ] in
    let B : c.if-bottom.lower ≡ sizes_where c.args.bottom (cap_sizes c.args.n) = elim c.if-bottom.branch [ then-bottom w ↦ rw w.if-bottom.true (w.lower-is ∙ w.cap_sizes-lower.ensures) | else-bottom w ↦ rw w.if-bottom.false w.lower-is ] in
    rw (c.sum_sizes-all.ensures, c.sum_sizes-b.ensures, c.unwrap_or-a.ensures, T, B)
