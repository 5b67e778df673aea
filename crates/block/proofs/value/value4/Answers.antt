use Rattle.block.specs.declared.value.Rgb.{Rgb}
use Rattle.block.specs.declared.value.Rgba.{Rgba}
use Rattle.block.specs.Value.{rgba, rgb}
use Rattle.block.proofs.ValueLaws.{value_by}
use Rattle.block.proofs.value.value4.Goals as goal

pub returns-then-alpha : goal.returns-then-alpha
returns-then-alpha c = rw (c.if-alpha.true, c.value_or.ensures) (value_by (λ (v : Rgba). v.0) (rgba c.args.values.now) 4 c.args.values.now c.args.found _)

pub returns : goal.returns
returns c = rw (c.if-alpha.false, c.value_or-2.ensures) (value_by (λ (v : Rgb). v.0) (rgb c.args.values.now) 3 c.args.values.now c.args.found _)
