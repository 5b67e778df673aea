use native.Mathlib.Omega.{arith}
use Rattle.lists.proofs.Keep.{kept_then}
use Rattle.tables.proofs.Stays.{sound_kept}
use Rattle.soups.proofs.Generating.{spread_from}
use Rattle.soups.proofs.ready.prepare.Goals as goal

pub spread_numbers-requires : goal.spread_numbers-requires
spread_numbers-requires c =
    let R = c.requires.0.room in sound_kept c.generate_where.ensures.0 c.args.t (omega (arith, R)) c.requires.0

pub returns : goal.returns
returns c =
    let R = c.requires.0.room in let K = c.generate_where.ensures.0 in let S = c.spread_numbers.ensures in record { kept = kept_then K S.0 (omega arith); numbers = spread_from K R S.1; normals = c.generate_where.ensures.1 }
