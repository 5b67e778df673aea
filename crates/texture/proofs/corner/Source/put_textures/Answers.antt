use Rattle.texture.proofs.Filled.{point_within, texture_read}
use mathlib.Core.Path.{ap, refl}
use native.Mathlib.Omega.{arith}
use Rattle.lists.proofs.Pieces.{pieces_none, pieces_more, pieces_kept}
use Rattle.mesh.specs.Words.{words2}
use Rattle.texture.proofs.corner.Source.put_textures.Goals as goal

pub loop-c-init : goal.loop-c-init
loop-c-init c = pieces_none

pub texture_at-w-requires : goal.texture_at-w-requires
texture_at-w-requires c =
    let F = c.requires in
    let T = c.loop-c.invariant in
    (point_within F (pieces_kept T (omega (arith, F.room))) c.loop-c-test.true c.wide.ensures, omega (arith, F.points_below, F.room, T.size))

pub loop-c-preserved : goal.loop-c-preserved
loop-c-preserved c =
    let F = c.requires in
    let T = c.loop-c.invariant in
    let r = texture_read F (pieces_kept T (omega (arith, F.room))) c.loop-c-test.true _ _ _ _ _ c.wide.ensures c.wide-place.ensures c.texture_at-w.ensures in
    pieces_more 2 (λ t. refl) (omega (arith, F.room)) T c.loop-c-test.true (omega arith) (ap words2 r) c.put2.ensures
