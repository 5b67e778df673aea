use Rattle.lists.proofs.Numbers.{next_row}
use Rattle.grid.proofs.Edges.{texture_made}
use mathlib.Core.Path.{ap}
use Prim.Native.Nat.{ℕ, ◌+◌, ◌*◌}
use native.Mathlib.Omega.{arith}
use Rattle.grid.proofs.textures.Row.edge.Goals as goal

pub returns-clause-near : goal.returns-clause-near
returns-clause-near c =
    let S = c.args.self.now in
    let e = S.width in
    texture_made _ _ _ c.args.i S.j c.requires S.plain (omega (arith, ap (λ (k : ℕ). S.j * k) e)) (rw e at c.part_word-s.ensures) S.before c.corner_texture.ensures

pub returns-clause-far : goal.returns-clause-far
returns-clause-far c =
    let S = c.args.self.now in
    let e = S.width in
    texture_made _ _ _ c.args.i (S.j + 1) c.requires S.plain (omega (arith, e, ap (λ (k : ℕ). S.j * k) e, next_row S.j S.xd)) (rw e at c.part_word-s.ensures) S.behind c.corner_texture-2.ensures
