use native.Mathlib.Omega.{arith}
use native.Mathlib.Nat.{mul-le-mul_right}
use Rattle.text.specs.Lines.{element_line}
use Rattle.text.proofs.Pieces.{then, looser}
use Rattle.text.proofs.writer.Writer.put_element.Goals as goal

pub overflow_mul-m : goal.overflow_mul-m
overflow_mul-m c =
    let h = mul-le-mul_right c.args.i c.requires.1 in omega (arith, h)

pub put_fields-requires : goal.put_fields-requires
put_fields-requires c =
    let h = mul-le-mul_right c.args.i c.requires.1 in (omega arith, omega (arith, h))

pub returns : goal.returns
unfolding element_line
returns c = looser 35 (omega arith) (then c.put_byte.ensures (then c.put_fields.ensures c.put_byte-2.ensures))
