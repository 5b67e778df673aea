-- FORMAT 13: a call that was not refused, and the elements that it made.
use Rattle.std.specs.Prelude.{ℕ, ◌*◌, cond, List, [], take}
use Rattle.block.specs.declared.header.Header.{Header}
use Rattle.block.specs.Header.{header_of}
use Rattle.mesh.specs.Mesh.{Slices}
use Rattle.mesh.specs.Result.{makes_normals, makes_colours, makes_textures}
use Rattle.std.specs.Prelude.{Ok}
use Rattle.geometry.specs.declared.answer.Call.{Call}
use Rattle.lent.specs.declared.answer.Report.{Report}
use Rattle.geometry.specs.Converted.{Lending, Converted}

-- FORMAT 3, 5: of the block bs: what it was lent, what it left, and the counts and bits it answered
pub record AcceptedCall (call : Call) (bs : List ℕ) : Type 0 where
  pub lent : Lending
  pub left : Lending
  pub report : Report
  pub converted : Converted call bs lent left (Ok report)

-- FORMAT 5: from the start of each slice as many as the answer says, and none of an attribute that is not made
unfoldable pub elements : Header → Report → Slices → Slices
elements h p S =
    record {
      sources = take p.vertices S.sources;
      positions = take (3 * p.vertices) S.positions;
      normals = cond (makes_normals h) (take (3 * p.vertices) S.normals) [];
      colours = cond (makes_colours h) (take (4 * p.vertices) S.colours) [];
      textures = cond (makes_textures h) (take (2 * p.vertices) S.textures) [];
      indices = take p.indices S.indices;
    }

-- FORMAT 13: the elements that a call made
abbrev pub elements_of : {call : Call} {bs : List ℕ} → AcceptedCall call bs → Slices
elements_of {call} {bs} x = elements (header_of bs) x.report x.left.slices
