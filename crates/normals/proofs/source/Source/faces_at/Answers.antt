use Rattle.normals.proofs.Walks.{faces_low, faces_hit}
use Rattle.normals.proofs.source.Source.faces_at.Goals as goal

pub returns-clause-low : goal.returns-clause-low
returns-clause-low c = faces_low c.args.self.now.ready _ _ _ c.requires c.before-from.ensures c.before-to.ensures

pub returns-clause-hits : goal.returns-clause-hits
returns-clause-hits c = faces_hit c.args.self.now.ready _ _ _ c.requires c.before-from.ensures c.before-to.ensures
