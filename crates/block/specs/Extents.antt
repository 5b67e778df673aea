-- The eight lists of a block, in words: how wide their entries are, where they lie, and how long the block is. FORMAT 2.4, 2.5.
use Rattle.std.specs.Prelude.{ℕ, ◌+◌, ◌*◌, Bool, cond, List, [], ◌∷◌, get_or, take, drop}
use Rattle.block.specs.Edition.{edition_of, words_ahead}
use Rattle.block.specs.Kind.{by_kind}
use Rattle.block.specs.declared.kind.Kind.{Kind}
use Rattle.block.specs.declared.header.Header.{Header}
use Rattle.block.specs.declared.extents.Place.{Place}

-- FORMAT 2.4: the words of a colour
abbrev pub color_width : Bool → ℕ
color_width alpha = cond alpha 4 3

-- FORMAT 2.4, face and line set, triangle, fan, strip and quad set: points, coordIndex, colours, their index, normals, their index, texture points, their index
abbrev pub set_widths : Bool → List ℕ
set_widths alpha = 3 ∷ 1 ∷ color_width alpha ∷ 1 ∷ 3 ∷ 1 ∷ 2 ∷ 1 ∷ []

-- FORMAT 2.4, grid: xDimension, zDimension, colours, heights, normals, none, texture points, none
abbrev pub grid_widths : Bool → List ℕ
grid_widths alpha = 0 ∷ 0 ∷ color_width alpha ∷ 1 ∷ 3 ∷ 0 ∷ 2 ∷ 0 ∷ []

-- FORMAT 2.4, extrusion: spine, cross-section, scales, orientations, four unused
abbrev pub extrusion_widths : List ℕ
extrusion_widths = 3 ∷ 2 ∷ 2 ∷ 5 ∷ 0 ∷ 0 ∷ 0 ∷ 0 ∷ []

-- FORMAT 2.4: the words of an entry of each list, by kind and alpha
abbrev pub widths_by : Kind → Bool → List ℕ
widths_by kind alpha = by_kind kind (set_widths alpha) (set_widths alpha) (grid_widths alpha) extrusion_widths (λ g. set_widths alpha)

unfoldable pub widths : Header → List ℕ
widths h = widths_by h.kind h.alpha

-- FORMAT 2.5: the words of lists with these widths and counts
unfoldable pub words_in : List ℕ → List ℕ → ℕ
words_in [] ns = 0
words_in (w ∷ ws) [] = 0
words_in (w ∷ ws) (n ∷ ns) = w * n + words_in ws ns

-- FORMAT 2.5: the header's words and twelve words, then the lists
abbrev pub ahead : Header → ℕ
ahead h = words_ahead (edition_of h.edition)

unfoldable pub word_count : Header → ℕ
word_count h = ahead h + words_in (widths h) h.counts

-- FORMAT 2.5: the word at which list k starts
unfoldable pub list_at : Header → ℕ → ℕ
list_at h k = ahead h + words_in (take k (widths h)) h.counts

-- FORMAT 2.5: the words of list k; from 8 on there are none
unfoldable pub list_size : Header → ℕ → ℕ
list_size h k = get_or (widths h) k 0 * get_or h.counts k 0

-- FORMAT 2.5: where list k lies, in bytes
unfoldable pub place_of : Header → ℕ → Place
place_of h k = record { at = 4 * list_at h k; len = 4 * list_size h k }

-- FORMAT 2.5: the bytes of list k
abbrev pub list_bytes : List ℕ → Header → ℕ → List ℕ
list_bytes bs h k = take (place_of h k).len (drop (place_of h k).at bs)
