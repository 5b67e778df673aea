use Rattle.tables.proofs.Putting.{put_are}
use Rattle.extrusion.proofs.Tabled.{cap_planned, faces_put, room_corners, room_places, room_starts, rows_planned, section_planned, spine_planned, starts_room, uses_room}
use Rattle.std.proofs.Common.{rules}
use mathlib.Core.Path.{refl}
use native.Mathlib.Omega.{arith}
use Rattle.extrusion.proofs.listing.list_faces.Goals as goal

pub invariant_of-f : goal.invariant_of-f
invariant_of-f c =
    let P = c.requires in
    let en = c.spine_count.ensures in
    let em = c.section_count.ensures in
    record { rows = spine_planned P _ _ en em; columns = section_planned P _ _ en em; fewer = cap_planned P _ _ en em; few = rows_planned P _ _ en em }

pub put_uses-requires : goal.put_uses-requires
put_uses-requires c = uses_room c.requires _ _ c.spine_count.ensures c.section_count.ensures _ _ (room_corners c.requires)

pub put_starts-requires : goal.put_starts-requires
put_starts-requires c = starts_room c.requires _ _ c.spine_count.ensures c.section_count.ensures _ (omega (arith, room_starts c.requires))

pub put_uses-requires-2 : goal.put_uses-requires-2
put_uses-requires-2 c = uses_room c.requires _ _ c.spine_count.ensures c.section_count.ensures _ _ (omega (arith, room_places c.requires))

pub returns : goal.returns
returns c =
    faces_put c.requires _ _ c.spine_count.ensures c.section_count.ensures _ _ _ _ _ refl c.put_uses.ensures c.put_starts.ensures c.put_uses-2.ensures (put_are (λ j. j) c.put_each.ensures (λ j r b p. search rules))
