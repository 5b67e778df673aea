use Rattle.lists.proofs.Numbers.{entry_room}
use Rattle.lists.proofs.Tabs.{count_is, entry_is}
use Rattle.extrusion.proofs.reading.Entries.at.Goals as goal

pub read-requires : goal.read-requires
read-requires g c = entry_room _ _ _ _ _ c.self.invariant (count_is _ _ _ c.self.view_is) c.requires

pub returns : goal.returns
returns g c = entry_is _ _ _ _ _ c.self.view_is c.requires c.read.ensures
