use mathlib.Core.Path.{refl}
use Rattle.polygon.specs.Memo.{xy}
use Rattle.polygon.proofs.Turns.{others_clear, others_found, others_back}
use Rattle.polygon.proofs.memo.Search.other_hit.Goals as goal

pub scan_blocks-k-requires : goal.scan_blocks-k-requires
scan_blocks-k-requires c =
    others_clear (xy c.args.self.now.p.now) _ _ _ _ _ _ _ c.take_word-x.ensures.1 c.take_word-y.ensures.1 c.take_word-z.ensures.1
    _ _ _ c.triangle_at.ensures.a c.triangle_at.ensures.b c.triangle_at.ensures.c _ c.requires

pub returns : goal.returns
returns c = (
  others_found (xy c.args.self.now.p.now) _ _ _ _ _ _ _ c.take_word-x.ensures.1 c.take_word-y.ensures.1 c.take_word-z.ensures.1
      _ _ _ c.triangle_at.ensures.a c.triangle_at.ensures.b c.triangle_at.ensures.c _ c.scan_blocks-k.ensures,
  others_back (xy c.args.self.now.p.now) _ _ _ _ _ _ _ c.take_word-x.ensures.1 c.take_word-y.ensures.1 c.take_word-z.ensures.1 _ _ _ _ _ _ c.take_word-x.ensures.0 c.take_word-y.ensures.0 c.take_word-z.ensures.0 c.put.ensures c.put-2.ensures c.put-3.ensures,
  refl,
  refl,
)
