use mathlib.Core.List.{[], ◌∷◌}
use Prim.Native.Nat.{◌+◌}
use Rattle.normals.proofs.Waiting.{part_skip, part_all}
use Rattle.normals.proofs.source.Source.near_normals.Goals as goal

pub loop-c-preserved : goal.loop-c-preserved
loop-c-preserved c =
    let X = c.pass_alone-x.ensures in
    let Y = c.pass_alone-y.ensures in
    let Z = c.pass_alone-z.ensures in
    let S = c.pass_alone-s.ensures in
    let d = c.args.floats.now in
    let x = c.pass_alone-x.result.corner in
    let y = c.pass_alone-y.result.corner in
    let z = c.pass_alone-z.result.corner in
    let s = c.pass_alone-s.result.corner in
    let px = part_skip x (X.on d [] c.loop-c.invariant.1) in
    let py = part_skip y (Y.on d (x ∷ []) px) in
    let pz = part_skip z (Z.on d (y ∷ x ∷ []) py) in
    let ps = part_skip s (S.on d (z ∷ y ∷ x ∷ []) pz) in
    let qs = c.put_stop.ensures.filled d (s + 1) (z ∷ y ∷ x ∷ []) ps in
    let qz = c.put_stop-in-loop-c.ensures.filled d (s + 1) (y ∷ x ∷ []) qs in
    let qy = c.put_stop-in-loop-c-2.ensures.filled d (s + 1) (x ∷ []) qz in
    (S.stopped, c.put_stop-in-loop-c-3.ensures.filled d (s + 1) [] qy)

pub returns : goal.returns
returns c = part_all _ c.loop-c.invariant.1 c.loop-c-test.false c.requires.1
