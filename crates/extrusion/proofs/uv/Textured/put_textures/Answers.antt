use Rattle.extrusion.proofs.Textures.{corner_within, texture_read}
use mathlib.Core.Path.{ap, refl}
use native.Mathlib.Omega.{arith}
use Rattle.lists.proofs.Pieces.{pieces_none, pieces_more, pieces_kept}
use Rattle.mesh.specs.Words.{words2}
use Rattle.extrusion.proofs.uv.Textured.put_textures.Goals as goal

pub loop-c-init : goal.loop-c-init
loop-c-init c = pieces_none

pub corner_texture-w-requires : goal.corner_texture-w-requires
corner_texture-w-requires c =
    let C = c.requires in
    corner_within C (pieces_kept c.loop-c.invariant (omega (arith, C.room))) c.loop-c-test.true c.wide.ensures

pub loop-c-preserved : goal.loop-c-preserved
loop-c-preserved c =
    let C = c.requires in
    let T = c.loop-c.invariant in
    let r = texture_read C (pieces_kept T (omega (arith, C.room))) c.loop-c-test.true _ c.wide.ensures c.wide-f.ensures c.corner_texture-w.ensures in
    pieces_more 2 (λ t. refl) (omega (arith, C.room)) T c.loop-c-test.true (omega arith) (ap words2 r) c.put2.ensures
