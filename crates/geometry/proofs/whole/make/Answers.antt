use mathlib.Core.Path.{refl}
use Rattle.geometry.proofs.Refusing.{asked_by}
use Rattle.geometry.proofs.Calls.{made_call}
use Rattle.geometry.proofs.whole.make.Goals as goal

pub invariant_of-a : goal.invariant_of-a
invariant_of-a c =
    record { accepted = (asked_by _ _ _ _ c.requires.0 c.read_settings-settings.ensures c.requires.2).accepted }

pub make_kind-n-requires : goal.make_kind-n-requires
make_kind-n-requires c =
    (record { kind = refl; enough = (asked_by _ _ _ _ c.requires.0 c.read_settings-settings.ensures c.requires.2).enough }, c.requires.1)

pub returns-clause-converted : goal.returns-clause-converted
returns-clause-converted c =
    made_call _ _ _ _ _ _ c.requires.2 _ _ c.requires.0 refl c.make_kind-n.ensures.made c.flags_of-f.ensures
