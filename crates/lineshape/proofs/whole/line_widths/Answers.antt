use Rattle.soups.specs.Attributes.{face_widths}
use Rattle.lineshape.specs.Shape.{line_widths}
use Rattle.lineshape.proofs.whole.line_widths.Goals as goal

pub returns : goal.returns
unfolding face_widths line_widths
returns c = λ i. record { normal = 0; colour = (c.face_widths-w.ensures i).colour; texture = 0 }
