use Rattle.mending.proofs.mend.Lent.found_at.Goals as goal
use mathlib.Core.Path.{sym, ◌∙◌}
use native.Mathlib.Omega.{arith}
use Rattle.lists.proofs.Named.{named_word}
use Rattle.mesh.proofs.Options.{unwrap_or_is}

pub triangle_normal-requires : goal.triangle_normal-requires
triangle_normal-requires c = omega (arith, named_word c.args.word c.in-Some.n (sym c.named_by.ensures ∙ c.in-Some.is))

pub returns : goal.returns
returns c = rw (← c.named_by.ensures, c.in-Some.is, ← c.triangle_normal.ensures) (c.unwrap_or.ensures ∙ unwrap_or_is _ _)
