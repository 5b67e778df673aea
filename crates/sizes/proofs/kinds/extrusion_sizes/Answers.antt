use native.Mathlib.Omega.{arith}
use native.Mathlib.Nat.{lt_of_le_of_lt, mul-le-mul}
use lib.Dec.{lit<}
use Rattle.sizes.proofs.ByKind.{cap_few, extrusion_are}
use Rattle.sizes.proofs.kinds.extrusion_sizes.Goals as goal

pub overflow_mul-result-2 : goal.overflow_mul-result-2
overflow_mul-result-2 c = record { fits = lt_of_le_of_lt (mul-le-mul c.cap_count-n.ensures.1 (cap_few c.requires c.args.net.now.sides _ c.cap_length-k.ensures)) (lit< tt) }

pub overflow_add-result : goal.overflow_add-result
overflow_add-result c = omega (arith, c.quads-quads.ensures.1, mul-le-mul c.cap_count-n.ensures.1 (cap_few c.requires c.args.net.now.sides _ c.cap_length-k.ensures))

pub cap_indices-requires : goal.cap_indices-requires
cap_indices-requires c = cap_few c.requires c.args.net.now.sides _ c.cap_length-k.ensures

pub returns : goal.returns
returns c =
    extrusion_are _ _ _ _ _ _ _ c.cap_length-k.ensures c.cap_count-n.ensures.0 c.points.ensures c.quads-quads.ensures.0 c.cap_indices.ensures.0
