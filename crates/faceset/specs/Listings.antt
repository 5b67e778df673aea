-- FORMAT 6.1, 6.2, 8.1: the kept faces of a face set as they are listed.
use Rattle.std.specs.Prelude.{ℕ, cond, List, [], ◌∷◌}
use Rattle.bits.specs.declared.Words4.{Words4}
use Rattle.block.specs.Runs.{Run, runs, kept}
use Rattle.lists.specs.Lists.{map_n, join_n}
use Rattle.mesh.specs.Soup.{Corner}
use Rattle.mesh.specs.Texture.{fit_of, default_at}
use Rattle.mesh.specs.FaceSet.{Rest, point_count, corner_by}
use Rattle.tables.specs.Listed.{Use, Listing}

-- FORMAT 7.1, indexed_face_set (ci, k): the entry e of coordIndex at place k
abbrev pub use_of : ℕ → ℕ → Use
use_of k e = record { point = e; place = k }

-- FORMAT 6.2, indexed_face_set (face_no, face): run r, by its number among all runs
abbrev pub listing_of : ℕ → Run → Listing
listing_of number r = record { number = number; uses = map_n use_of r.start r.items }

-- FORMAT 6.2, indexed_face_set (continue): nothing of a run that is skipped
unfoldable pub listed : ℕ → ℕ → Run → List Listing
listed points number r = cond (kept points r.items) (listing_of number r ∷ []) []

-- FORMAT 6.2, 8.1, split_runs and indexed_face_set (pm.faces): of the runs of the entries ws, numbered from 0, those that are kept
unfoldable pub listings_of : ℕ → List ℕ → List Listing
listings_of points ws = join_n (listed points) 0 (runs ws)

-- FORMAT 8.1, indexed_face_set (c_out, n_out, t_out): what makes a corner of its face's number and its use
unfoldable pub corner_use : Words4 → Rest → List ℕ → ℕ → Use → Corner
corner_use missing R coord num u =
    corner_by missing R coord num u.place u.point (default_at R.points (fit_of R.points (point_count R.head)) u.point)
