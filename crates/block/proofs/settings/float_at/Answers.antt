use native.Mathlib.Omega.{arith}
use mathlib.Core.Path.{ap}
use Rattle.block.specs.declared.edition.Edition.{Edition}
use Rattle.block.proofs.EditionLaws.{short_in}
use Rattle.block.proofs.settings.float_at.Goals as goal

pub overflow_add-e : goal.overflow_add-e
overflow_add-e c = omega (arith, short_in c.args.block.now, ap (λ (e : Edition). e.header_words) c.edition_in-e.ensures)

pub overflow_mul-e : goal.overflow_mul-e
overflow_mul-e c = omega (arith, short_in c.args.block.now, ap (λ (e : Edition). e.header_words) c.edition_in-e.ensures)
