use mathlib.Core.Path.{sym, ap, ◌∙◌}
use Rattle.std.specs.Prelude.{Some}
use native.Mathlib.Omega.{arith}
use Rattle.lines.specs.Steps.{last_of}
use Rattle.lines.proofs.Pairs.{line_none, vertex_here, vertex_past, corner_here, corner_past}
use Rattle.lines.proofs.pairing.put_entry.Goals as goal

pub put_line-at-requires : goal.put_line-at-requires
put_line-at-requires c =
    (rw (vertex_here _ _ _ c.if-e-points.true, ← c.wide.ensures) at c.requires.2, c.requires.1, omega (arith, c.wide.ensures, c.type_inv.numbers c.args.w.corner.0))

pub returns-then-e-points : goal.returns-then-e-points
unfolding last_of
returns-then-e-points c =
    let v = vertex_here c.args.points c.args.numbers.now c.args.w.corner.0 c.if-e-points.true in record { added = rw (v, ← c.wide.ensures) c.put_line-at.ensures; corner = sym (corner_here _ _ c.if-e-points.true); last = ap Some c.wide.ensures ∙ sym v; fits = omega (arith, c.wide.ensures, c.type_inv.numbers c.args.w.corner.0) }

pub returns : goal.returns
unfolding last_of
returns c =
    let v = vertex_past c.args.points c.args.numbers.now c.args.w.corner.0 c.if-e-points.false in record { added = rw v (line_none (last_of c.args.w.last) _ _); corner = sym (corner_past _ _ c.if-e-points.false); last = sym v; fits = omega arith }
