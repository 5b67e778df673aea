use Rattle.lists.specs.Parts.{spliced}
use Rattle.mesh.specs.Grid.{x_dimension}
use Rattle.mesh.specs.Quads.{quad}
use mathlib.Core.List.{[], ◌∷◌}
use mathlib.Core.Path.{◌≡◌, ap, ◌∙◌}
use Prim.Native.Nat.{◌+◌, ◌*◌}
use native.Mathlib.Omega.{arith}
use Rattle.grid.proofs.sided.GridBlock.put_quad.Goals as goal

pub returns : goal.returns
unfolding quad
returns c =
    let xd = x_dimension c.args.self.now.header in
    let i = c.args.i in
    let j = c.args.j in
    let a = rw c.x_dimension-xd.ensures at c.point_at-a.ensures in
    let b = rw c.x_dimension-xd.ensures at c.point_at-b.ensures in
    let p : c.narrow.result ≡ i + j * xd = omega (arith, a, c.narrow.ensures) in
    let q : c.narrow-2.result ≡ i + (j + 1) * xd = omega (arith, b, c.narrow-2.ensures) in
    let r : c.narrow-3.result ≡ i + 1 + (j + 1) * xd = omega (arith, b, c.narrow-3.ensures) in
    let s : c.narrow-4.result ≡ i + 1 + j * xd = omega (arith, a, c.narrow-4.ensures) in
    c.put_all.ensures ∙ ap (spliced c.args.work.now c.args.k) (λ t. p t ∷ q t ∷ r t ∷ s t ∷ [])
