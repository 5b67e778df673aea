use mathlib.Core.Path.{◌≡◌, ap₂, ◌∙◌}
use native.Mathlib.Omega.{arith}
use lib.ListN.{length}
use Prim.Native.Nat.{◌/◌}
use Rattle.mesh.specs.Texture.{fit_of}
use Rattle.facesetshape.proofs.filling.fit_in.Goals as goal

pub returns : goal.returns
returns c =
    let e : length c.points_of.result.now / 3 ≡ c.args.t.spots = omega (arith, c.points_of.ensures.size) in
    λ y. c.fit_of-2.ensures ∙ ap₂ fit_of c.points_of.ensures.are e
