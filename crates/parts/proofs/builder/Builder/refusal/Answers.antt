use Rattle.parts.specs.Sizes.{is_short_part, is_short_by, is_short_texture}
use Rattle.parts.proofs.builder.Builder.refusal.Goals as goal

pub returns : goal.returns
unfolding is_short_part is_short_by is_short_texture
returns c = c.part_refusal.ensures
