use Rattle.lists.proofs.Tabs.{count_is}
use Rattle.extrusion.proofs.reading.Entries.len.Goals as goal

pub returns : goal.returns
returns g c = count_is _ _ _ c.self.view_is
