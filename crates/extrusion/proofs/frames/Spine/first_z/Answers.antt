use Rattle.extrusion.proofs.Finding.{found_is}
use Rattle.mesh.specs.Frames.{first_z, z_own}
use lib.ListN.{length}
use Rattle.std.proofs.Common.{rules}
use Rattle.extrusion.proofs.frames.Spine.first_z.Goals as goal

pub returns : goal.returns
unfolding first_z
returns c =
    found_is _ _ (z_own c.args.self.now.points) (length c.args.self.now.points) _ c.find_map.ensures.runs.0 _ c.find_map.ensures.runs.1 c.len.ensures c.find_map.ensures.runs.2 (search rules) (search rules)
