use Rattle.extrusion.proofs.Sides.{begin_room, end_room, sides_room, uses_put}
use Prim.Native.Nat.{◌+◌, ◌-◌, ◌*◌}
use Rattle.std.proofs.Common.{rules}
use mathlib.Core.Path.{◌≡◌, refl}
use native.Mathlib.Omega.{arith}
use Rattle.extrusion.proofs.faces.Faces.put_uses.Goals as goal

pub put_sides-requires : goal.put_sides-requires
put_sides-requires c = sides_room _ _ _ _ _ _ _ c.requires

pub put_cap-next-requires-clause-room : goal.put_cap-next-requires-clause-room
put_cap-next-requires-clause-room c = omega (arith, begin_room _ _ _ _ _ _ _ c.requires)

pub put_cap-requires-clause-room : goal.put_cap-requires-clause-room
put_cap-requires-clause-room c = omega (arith, end_room _ _ _ _ _ _ _ c.requires _ c.put_cap-next.ensures.behind)

pub returns : goal.returns
returns c =
    let q : c.point_at-last.result.0 ≡ (c.args.self.now.n - 1) * c.args.self.now.m = omega (arith, c.point_at-last.ensures) in
    uses_put _ _ _ _ _ _ _ c.requires _ _ _ _ _ refl c.put_sides.ensures (c.put_cap-next.ensures.put (λ j. c.args.self.now.cap - 1 - j) (λ j r b p. search rules)) c.put_cap-next.ensures.behind
    (c.put_cap.ensures.put (λ j. (c.args.self.now.n - 1) * c.args.self.now.m + j) (λ j r b p. search rules))
