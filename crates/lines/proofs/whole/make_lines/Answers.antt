use mathlib.Core.Path.{refl, ap, ◌∙◌}
use Prim.Native.Nat.{ℕ}
use native.Mathlib.Omega.{arith}
use lib.ListN.{replicate}
use Rattle.std.proofs.Common.{rules}
use Rattle.vertices.specs.Places.{store_in}
use Rattle.lists.proofs.Keep.{length_seg, part_seg}
use Rattle.lines.proofs.Meshed.{told_count, done_as, lined_all}
use Rattle.lines.proofs.whole.make_lines.Goals as goal

pub put_lines-made-requires : goal.put_lines-made-requires
put_lines-made-requires c =
    let R = c.requires in
    let s = part_seg c.all_vertices-n.new.work c.args.t.named _ c.args.t.count refl in
    let Q = R.corners.laid in
    let l = c.all_vertices-n.ensures.cornered.kept.len in
    rw s (length_seg _ _ _ (omega (arith, Q.named, Q.places, Q.numbers, Q.textures, Q.heads, Q.nexts, l)) ∙ told_count R.told, R.room)

pub returns-clause-done : goal.returns-clause-done
returns-clause-done c =
    let R = c.requires in
    let C = c.all_vertices-n.ensures.cornered in
    let s = part_seg c.all_vertices-n.new.work c.args.t.named _ c.args.t.count refl in
    done_as (store_in c.all_vertices-n.new.slices) (record {
      lined = λ missing rest T. lined_all T R.corners.laid C R.normal R.texture _ _ _ (rw s at c.put_lines-made.ensures);
      words = c.clear_words.ensures ∙ ap (λ (n : ℕ). replicate n 0) C.kept.len;
      floats = c.clear_floats.ensures;
    }) (search rules) (search rules) (search rules) (search rules) (search rules)
