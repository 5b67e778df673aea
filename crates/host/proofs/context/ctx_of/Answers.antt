use mathlib.Core.Path.{◌∙◌}
use lib.Dec.{leb}
use lib.ListN.{length}
use Rattle.std.specs.Bool.{then_some}
use Rattle.host.specs.Context.{given_transform, ctx_of}
use Rattle.host.proofs.context.ctx_of.Goals as goal

pub returns : goal.returns
unfolding ctx_of given_transform
returns c =
    λ i.
    record {
      need_uvs = c.is_on.ensures i;
      transform =
          (c.then_some.ensures
          ∙ (λ j. then_some (leb 8 (length c.args.transform.now)) (record {
            center = record { s = c.float_at.ensures j; t = c.float_at-2.ensures j };
            sine = c.float_at-3.ensures j;
            cosine = c.float_at-4.ensures j;
            scale = record { s = c.float_at-5.ensures j; t = c.float_at-6.ensures j };
            translation = record { s = c.float_at-7.ensures j; t = c.float_at-8.ensures j };
          }))) i;
    }
