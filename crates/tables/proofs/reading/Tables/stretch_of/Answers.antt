use Rattle.tables.proofs.Stays.{ends_of}
use Rattle.tables.proofs.reading.Tables.stretch_of.Goals as goal

pub returns : goal.returns
returns c = ends_of c.requires.0 _ _ c.requires.1 c.start_of-from.ensures c.start_of-to.ensures
