use Rattle.lineshape.proofs.Bounds.{points_low, points_there, count_low, tables_are, laid_at, entries_short}
use Rattle.lineshape.proofs.Readying.{ready, shaped}
use Rattle.lineshape.proofs.whole.make_line_set.Goals as goal

pub line_tables-t-requires : goal.line_tables-t-requires
line_tables-t-requires c =
    let A = c.requires.0 in
    (points_low A, count_low A c.list_part-coord.ensures c.requires.1)

pub put_tables-requires : goal.put_tables-requires
put_tables-requires c =
    let A = c.requires.0 in
    let e = tables_are A c.list_part-coord.ensures c.requires.1 c.line_tables-t.ensures in
    (e, laid_at A c.list_part-coord.ensures e, points_low A, points_there A c.list_part-list.ensures, entries_short A c.list_part-coord.ensures)

pub make_lines-requires : goal.make_lines-requires
make_lines-requires c =
    let A = c.requires.0 in
    let e = tables_are A c.list_part-coord.ensures c.requires.1 c.line_tables-t.ensures in
    ready c.args.missing _ A c.list_part-list.ensures c.list_part-coord.ensures e c.put_tables.ensures c.attributes_of-attributes.ensures c.line_widths-widths.ensures

pub returns-clause-made : goal.returns-clause-made
returns-clause-made c =
    let A = c.requires.0 in
    let e = tables_are A c.list_part-coord.ensures c.requires.1 c.line_tables-t.ensures in
    shaped c.args.missing _ A c.list_part-list.ensures c.list_part-coord.ensures e c.put_tables.ensures c.attributes_of-attributes.ensures c.line_widths-widths.ensures c.make_lines.ensures.done
