use Rattle.tables.proofs.Putting.{put_are}
use Rattle.grid.proofs.Held.{tables_written}
use Prim.Native.Nat.{◌*◌}
use Rattle.std.proofs.Common.{rules}
use native.Mathlib.Omega.{arith}
use Rattle.grid.proofs.sided.GridBlock.list_faces.Goals as goal

pub put_corners-requires : goal.put_corners-requires
put_corners-requires c = omega (arith, c.requires.count, c.requires.room)

pub returns : goal.returns
returns c =
    tables_written _ _ _ _ _ _ _ c.args.self.now.sides c.requires c.put_corners.ensures (put_are (λ j. 4 * j) c.put_each.ensures (λ j r b p. search rules)) c.copy_within.ensures.after (put_are (λ j. 1 * j) c.put_each-2.ensures (λ j r b p. search rules))
