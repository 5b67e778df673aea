use Rattle.std.proofs.Common.{rules}
use Rattle.soups.specs.Attributes.{face_widths}
use Rattle.soups.proofs.attributes.face_widths.Goals as goal

pub returns-then-h-3 : goal.returns-then-h-3
unfolding face_widths
returns-then-h-3 c = search rules

pub returns-else-h-3 : goal.returns-else-h-3
unfolding face_widths
returns-else-h-3 c = search rules
