-- FORMAT 2.4, 3: what is known of the block of an extrusion that was not refused.
use Rattle.std.specs.Prelude.{◌≡◌, List, ℕ, ◌*◌, ◌≤◌, length, get_or}
use Rattle.block.specs.declared.kind.Kind.TheVariants.{Extrusion}
use Rattle.block.specs.declared.header.Header.{Header}
use Rattle.block.specs.Header.{header_of}
use Rattle.block.specs.Extents.{word_count}
use Rattle.mesh.specs.Extrusion.{spine_count, section_count}

-- FORMAT 2.4: the counts of the scales and of the orientations
abbrev pub scale_count : Header → ℕ
scale_count h = get_or h.counts 2 0

abbrev pub turn_count : Header → ℕ
turn_count h = get_or h.counts 3 0

-- FORMAT 3: the block's header, its kind, its length, and two points or more of the spine and of the cross-section
pub record Given (bs : List ℕ) (h : Header) : Type 0 where
  pub head : h ≡ header_of bs
  pub kind : h.kind ≡ Extrusion
  pub whole : length bs ≡ 4 * word_count h
  pub spine : 2 ≤ spine_count h
  pub section : 2 ≤ section_count h
