use Rattle.cone.proofs.Scaling.{known_unit}
use Rattle.cone.proofs.side.scaled.Goals as goal

pub returns : goal.returns
returns c =
    (known_unit c.args.a c.known_length.result c.in-Some.x c.in-Some.is c.known_length.ensures c.unit_by.ensures c.unwrap_or.ensures, known_unit c.args.b c.known_length-2.result c.in-Some-known_length.y c.in-Some-known_length.is c.known_length-2.ensures c.unit_by-2.ensures c.unwrap_or-2.ensures, known_unit c.args.c c.known_length-3.result c.in-Some-known_length-2.z c.in-Some-known_length-2.is c.known_length-3.ensures c.unit_by-3.ensures c.unwrap_or-3.ensures)
