use mathlib.Core.Path.{sym, ◌∙◌}
use Rattle.normals.specs.Rows.{unit_in}
use Rattle.normals.proofs.Floats.{flag_none, unit_mirrored}
use Rattle.normals.proofs.sums.Near.unit_of.Goals as goal

pub returns-then-self-t-eq0 : goal.returns-then-self-t-eq0
unfolding unit_in
returns-then-self-t-eq0 c = sym (flag_none _ _ c.if-self-t-eq0.true) ∙ c.args.self.now.source.ready.units c.args.g c.requires

pub returns : goal.returns
unfolding unit_in
returns c =
    unit_mirrored _ _ c.if-self-t-eq0.false _ (c.get3.ensures ∙ c.args.self.now.mirrored.unit c.args.g c.requires) ∙ c.args.self.now.source.ready.units c.args.g c.requires
