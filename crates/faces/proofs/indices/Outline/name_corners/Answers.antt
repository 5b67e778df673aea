use Rattle.faces.proofs.indices.Outline.name_corners.Goals as goal

pub returns : goal.returns
returns c = rw c.names_of-named.ensures.are at c.rename.ensures
