-- FORMAT 6.4, 8.1: the kept primitives of a triangle, fan, strip or quad set as they are listed.
use Rattle.std.specs.Prelude.{ℕ, ◌+◌, List, map, get_or}
use Rattle.block.specs.declared.topology.Topology.{Topology}
use Rattle.block.specs.Runs.{Run}
use Rattle.lists.specs.Lists.{map_n}
use Rattle.primitives.specs.Primitives.{stretches, places_of}
use Rattle.primitives.specs.Kept.{kept_over}
use Rattle.tables.specs.Listed.{Use, Listing}
use Rattle.faceset.specs.Listings.{use_of}

-- FORMAT 6.4, 7.1: the corners of primitive k of a stretch, each at its own place in coordIndex
unfoldable pub uses_of : Topology → Run → ℕ → List Use
uses_of g r k = map (λ (i : ℕ). use_of (r.start + i) (get_or r.items i 0)) (places_of g k)

-- FORMAT 6.4: the corners of the kept primitives of the entries ws, in order
unfoldable pub primitive_uses : ℕ → Topology → List ℕ → List (List Use)
primitive_uses points g ws = kept_over (uses_of g) points g (stretches g ws)

-- FORMAT 6.2: a face, by its number
abbrev pub listing_of : ℕ → List Use → Listing
listing_of n us = record { number = n; uses = us }

-- FORMAT 6.2, 6.4: the faces that list them one by one. None of them is skipped, so that they are numbered from 0 on
unfoldable pub primitive_listings : ℕ → Topology → List ℕ → List Listing
primitive_listings points g ws = map_n listing_of 0 (primitive_uses points g ws)
