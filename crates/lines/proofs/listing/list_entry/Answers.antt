use Rattle.lines.specs.Uses.{listed}
use Rattle.lines.proofs.Usage.{use_here, use_past}
use mathlib.Core.Path.{refl, sym}
use native.Mathlib.Nat.{add-zero}
use Rattle.lines.proofs.listing.list_entry.Goals as goal

pub returns-then-e-points : goal.returns-then-e-points
unfolding listed
returns-then-e-points c =
    rw (use_here c.args.line c.args.k c.if-e-points.true) (record { next = refl; made = c.list_corner.ensures })

pub returns : goal.returns
unfolding listed
returns c = rw (use_past c.args.line c.args.k c.if-e-points.false) (record { next = sym (add-zero _); made = refl })
