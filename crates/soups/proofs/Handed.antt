-- FORMAT 8, 11: listed faces, made ready, with their texture written after: the tables hold their soup, and its keys.
use mathlib.Core.Path.{◌≡◌, ap, ◌∙◌}
use mathlib.Core.Bool.{false}
use mathlib.Core.List.{List, []}
use Prim.Native.Nat.{ℕ, suc, ◌+◌, ◌*◌, ◌≤◌, ◌<◌}
use native.Mathlib.Omega.{arith}
use lib.ListN.{length, get_or}
use lib.Ieee.{Float}
use Rattle.std.specs.Prelude.{is_some}
use Rattle.lists.specs.Loops.{tab}
use Rattle.lists.specs.Lists.{join_n}
use Rattle.mesh.specs.Soup.{Corner, no_corner, Frame}
use Rattle.mesh.specs.Normals.{corner_normal}
use Rattle.mesh.specs.Vertices.{keys_of}
use Rattle.tables.specs.declared.layout.Plan.{Plan}
use Rattle.lists.specs.Parts.{Kept}
use Rattle.tables.specs.Soups.{owner_in, start_in, points_in, Holds}
use Rattle.tables.specs.Listed.{Use, Listing, no_listing, faces_with, uses_at, Listed}
use Rattle.lists.proofs.Keep.{kept_then}
use Rattle.tables.proofs.Stays.{start_le, start_kept, owner_kept, points_kept}
use Rattle.tables.proofs.Listings.{listed_sound, listed_holds, listed_kept}
use Rattle.vertices.specs.declared.places.Widths.{Widths}
use Rattle.normals.specs.Written.{Generated}
use Rattle.normals.proofs.Joined.{corner_written}
use Rattle.corners.specs.declared.attributes.Attributes.{Attributes}
use Rattle.corners.specs.Laid.{tables_of}
use Rattle.corners.specs.Corner.{Lent, generated_at, key_in}
use Rattle.soups.specs.Prepared.{normals_after, Prepared}
use Rattle.soups.specs.Keyed.{Reads, Textures}
use Rattle.soups.proofs.Keyed.{three_at, keys_held}

-- v the words as listed, w as made ready, w' with the texture; d the floats before
module _ {L : Lent} {a : Attributes} {widths : Widths} {v w w' : List ℕ} {t : Plan} {ls : List Listing} {corner : ℕ → Use → Corner} {d : List Float} (F : Frame)
    (E : Listed v t ls) (P : Prepared (is_some a.normals) F.ccw F.crease t v w d L.floats) (K : Kept (t.owners + t.count) w w')
    (R : Reads L a widths t.ring corner) (T : Textures widths w' t ls corner)
    (full : (j : ℕ) → j < t.faces → 0 < length (uses_at ls j)) (points : points_in v t ≡ F.points) (supplied : F.supplied ≡ is_some a.normals) where
  kept : Kept t.owners v w'
  kept = kept_then P.kept K (omega arith)

  listed : Listed w' t ls
  listed = listed_kept kept (omega arith) E

  start : (j : ℕ) → j ≤ t.faces → start_in w' t j ≡ start_in v t j
  start j h = let Q = E.room in start_kept kept t j (omega arith)

  below : (j i : ℕ) → j < t.faces → i < length (uses_at ls j) → start_in v t j + i < t.count
  below j i h b = let s = E.starts j h in let r = start_le (listed_sound E) (suc j) h in omega arith

  numbers : (j i : ℕ) → j < t.faces → i < length (uses_at ls j) → owner_in w' t (start_in w' t j + i) ≡ (get_or ls j no_listing).number
  numbers j i h b =
      let m = below j i h b in
      let s = E.starts j h in
      ap (λ (k : ℕ). owner_in w' t (k + i)) (start j (omega arith)) ∙ owner_kept K t (start_in v t j + i) (omega arith)
      ∙ P.numbers.at j (start_in v t j + i) h (omega arith) (omega arith) ∙ E.numbers j h

  normals : is_some a.normals ≡ false → (j i : ℕ) → j < t.faces → i < length (get_or (faces_with corner ls) j [])
      → generated_at L.floats (start_in w' t j + i) ≡ corner_normal F (faces_with corner ls) j (get_or (faces_with corner ls) j []) (get_or (get_or (faces_with corner ls) j []) i no_corner)
  unfolding normals_after generated_at
  normals e j i h b =
      let G : Generated v w t F.ccw F.crease L.floats = record { kept = P.kept; normals = rw e at P.normals } in
      ap (λ (k : ℕ). generated_at L.floats (k + i)) (start j (omega arith))
      ∙ three_at L.floats (3 * (start_in v t j + i)) _ (corner_written (listed_holds E corner R.point full F points) w L.floats G (supplied ∙ e) j i h b)

  -- FORMAT 8: the tables hold the soup
  pub handed_holds : Holds w' t F (faces_with corner ls)
  handed_holds = let Q = E.room in listed_holds listed corner R.point full F (points_kept kept t (omega arith) (listed_sound E) ∙ points)

  -- FORMAT 11: and the keys of its corners
  pub handed_keys : tab (key_in L a widths w' (tables_of t)) t.count 0 ≡ join_n (keys_of F (faces_with corner ls)) 0 (faces_with corner ls)
  handed_keys = keys_held listed R T handed_holds supplied numbers normals
