use Rattle.lists.proofs.Numbers.{share_below}
use Rattle.vertices.proofs.Buckets.{corner_bucket}
use Rattle.vertices.proofs.places.CornerKey.bucket_of.Goals as goal

pub returns : goal.returns
returns c =
    (corner_bucket _ _ _ _ c.normal_sum-normal.ensures.0 c.colour_sum-colour.ensures.0 c.texture_sum-texture.ensures.0 c.spread-hash.ensures.0, share_below _ c.spread-hash.ensures.1 c.requires.1.0)
