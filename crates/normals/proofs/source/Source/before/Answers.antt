use Rattle.normals.proofs.Walks.{all_before}
use Rattle.normals.proofs.source.Source.before.Goals as goal

pub returns : goal.returns
returns c = all_before c.args.self.now.ready _ c.requires c.if-p-t.false
