use mathlib.Core.Path.{refl}
use Rattle.std.proofs.lemmas.Result.{err_from_is_err_and}
use Rattle.block.proofs.Table.{number_some}
use Rattle.sizes.proofs.Decided.{refused_is, passed_is}
use Rattle.geometry.specs.Converted.{lengths_of}
use Rattle.geometry.proofs.Calls.{refused_call}
use Rattle.geometry.proofs.whole.convert.Goals as goal

pub returns-in_err-z-clause-converted : goal.returns-in_err-z-clause-converted
unfolding lengths_of
returns-in_err-z-clause-converted c =
    let p = err_from_is_err_and c.from_residual.result c.from_residual.ensures.1 in
    rw (p.1, p.2) (refused_call _ _ _ _ (refused_is _ _ _ _ c.in_err-z.ensures _ refl) (number_some _))

pub make-requires : goal.make-requires
unfolding lengths_of
make-requires c =
    let p = passed_is _ _ _ _ c.in_ok-z.ensures _ refl in (c.read_header-h.ensures, p.1, p.0)
