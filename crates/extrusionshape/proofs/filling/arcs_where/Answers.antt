use native.Mathlib.Omega.{arith}
use Rattle.extrusion.proofs.Textures.{arcs_held}
use Rattle.lists.proofs.Splices.{put_behind}
use Rattle.extrusionshape.proofs.filling.arcs_where.Goals as goal

pub returns-then-x : goal.returns-then-x
returns-then-x c =
    (record { held = λ u. arcs_held c.args.x.now.given _ _ _ c.requires c.put_arcs.ensures }, put_behind _ _ _ c.put_arcs.ensures (omega (arith, c.requires)))
