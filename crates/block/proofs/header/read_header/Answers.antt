use mathlib.Core.Path.{◌≡◌, ap, ◌∙◌}
use Rattle.bits.specs.Bits.{field}
use Rattle.block.specs.declared.edition.Edition.{Edition}
use Rattle.block.specs.Edition.{edition_of, edition_in, zeros_at}
use Rattle.block.specs.Kind.{kind_of}
use Rattle.block.specs.Header.{counts_of, header_of}
use Rattle.block.proofs.EditionLaws.{narrow}
use Rattle.block.proofs.header.read_header.Goals as goal

edition_is : (c : goal.After-zeros) → c.edition_of.result ≡ edition_in c.args.block.now
edition_is c = c.edition_of.ensures ∙ ap edition_of c.field_at-edition.ensures

pub invariant_of-counts : goal.invariant_of-counts
invariant_of-counts c = record { narrow = rw c.edition_of.ensures (narrow _) }

pub returns : goal.returns
unfolding header_of
returns c =
    λ i.
    record {
      edition = c.field_at-edition.ensures i;
      kind = (c.kind_of.ensures ∙ ap kind_of c.field_at.ensures) i;
      ccw = c.flag.ensures i;
      convex = c.flag-2.ensures i;
      solid = c.flag-3.ensures i;
      color_per_vertex = c.flag-4.ensures i;
      normal_per_vertex = c.flag-5.ensures i;
      need_uvs = c.flag-6.ensures i;
      transformed = c.flag-7.ensures i;
      colors = c.flag-8.ensures i;
      alpha = c.flag-9.ensures i;
      normals = c.flag-10.ensures i;
      texture_points = c.flag-11.ensures i;
      begin_cap = c.flag-12.ensures i;
      end_cap = c.flag-13.ensures i;
      counts = (c.counts.ensures ∙ ap (λ (e : Edition). counts_of c.args.block.now e.count_bits) (edition_is c)) i;
      zeros = (c.zeros.ensures ∙ ap (λ (e : Edition). field c.args.block.now (zeros_at e) e.zero_bits) (edition_is c)) i;
    }
