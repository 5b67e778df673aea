use Rattle.soups.specs.Attributes.{attributes_of}
use Rattle.soups.proofs.attributes.attributes_of.Goals as goal

pub returns : goal.returns
unfolding attributes_of
returns c =
    rw (c.then_some.ensures, c.normal_stream-normals.ensures, c.color_stream-colours.ensures)
