-- Rows of the texture point that is written, in words. FORMAT 7.3.
use Prim.Native.Nat.{ℕ}
use mathlib.Core.Path.{◌≡◌, refl}
use mathlib.Core.Bool.{true, false}
use lib.Ieee.{of_bits, to_bits, add, sub, mul}
use Rattle.bits.specs.declared.Words2.{Words2}
use Rattle.math.specs.Vector.{zero_f, one_f}
use Rattle.block.specs.Texture.{applied, uv_words}
use Rattle.block.specs.declared.texture.TexTransform.{TexTransform}

unfoldable pub identity : TexTransform
identity =
    record {
      center = record { s = zero_f; t = zero_f };
      sine = zero_f;
      cosine = one_f;
      scale = record { s = one_f; t = one_f };
      translation = record { s = zero_f; t = zero_f };
    }

abbrev words : ℕ → ℕ → Words2
words s t = record { s = s; t = t }

pub texture_rows : (uv_words true identity (words 0x3e80_0000 0x3e80_0000) ≡ words 0x3e80_0000 0x3f40_0000)  -- (0.25, 0.25) becomes (0.25, 0.75)
    × (uv_words false identity (words 0x3e80_0000 0x3e80_0000) ≡ words 0x3e80_0000 0x3f40_0000)  -- without a transform too
    × (uv_words false identity (words 0xff80_0001 0x7f80_0001) ≡ words 0xff80_0001 0x7fc0_0000)  -- a NaN keeps its bits in s, and is 7fc00000 in t
    × (uv_words true identity (words 0x8000_0000 0) ≡ words 0 0x3f80_0000)  -- -0 becomes 0 under the identity transform
unfolding uv_words identity applied add sub mul of_bits to_bits
texture_rows = (refl, refl, refl, refl)
