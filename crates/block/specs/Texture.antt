-- The texture transform, and the words that are written of a texture point. FORMAT 7.3; ISO/IEC 14772-1, 6.49.
use Rattle.std.specs.Prelude.{ℕ, Bool, Float, Option, Some, None}
use Rattle.std.specs.Bool.{then_some}
use Rattle.std.specs.Float.{binary32}
use Rattle.std.specs.Float.Ieee.{of_bits, to_bits, add, sub, mul}
use Rattle.math.specs.Vector.{one_f}
use Rattle.bits.specs.declared.Words2.{Words2}
use Rattle.block.specs.declared.texture.Pair.{Pair}
use Rattle.block.specs.declared.texture.TexTransform.{TexTransform}

-- FORMAT 7.3, TexTransform::apply: translated and moved to the centre, turned, scaled and moved back
unfoldable pub applied : TexTransform → Pair → Pair
applied x p =
    let a = add binary32 (add binary32 p.s x.translation.s) x.center.s in
    let b = add binary32 (add binary32 p.t x.translation.t) x.center.t in
    let c = sub binary32 (mul binary32 x.cosine a) (mul binary32 x.sine b) in
    let d = add binary32 (mul binary32 x.sine a) (mul binary32 x.cosine b) in
    record { s = sub binary32 (mul binary32 c x.scale.s) x.center.s; t = sub binary32 (mul binary32 d x.scale.t) x.center.t }

-- FORMAT 7.3: the word of 1 - t; a NaN is 7fc00000
abbrev pub flipped : Float → ℕ
flipped t = to_bits binary32 (sub binary32 one_f t)

-- the words of two floats
abbrev pub words_of : Pair → Words2
words_of p = record { s = to_bits binary32 p.s; t = to_bits binary32 p.t }

-- FORMAT 7.3: the words of a pair that is written
abbrev pub written : Pair → Words2
written q = record { s = to_bits binary32 q.s; t = flipped q.t }

-- the floats of two words
abbrev pub pair_of : Words2 → Pair
pair_of w = record { s = of_bits binary32 w.s; t = of_bits binary32 w.t }

-- FORMAT 7.3, GeomCtx::uv: transformed where there is a transform, else s as it is; then 1 - t
abbrev pub uv_by : Option TexTransform → Words2 → Words2
uv_by (Some x) w = written (applied x (pair_of w))
uv_by None w = record { s = w.s; t = flipped (of_bits binary32 w.t) }

-- the same, where a bit of the header says whether there is one
unfoldable pub uv_words : Bool → TexTransform → Words2 → Words2
uv_words transformed x w = uv_by (then_some transformed x) w
