-- The twelve words after the header, with what is read for those that are not finite. FORMAT 2.3.
use Rattle.std.specs.Prelude.{ℕ, ◌+◌, ◌*◌, ◌&&◌, cond, List, Float}
use Rattle.std.specs.Float.{binary32}
use Rattle.std.specs.Float.Ieee.{of_bits}
use Rattle.std.specs.Float.Ieee.Scale.{finite}
use Rattle.bits.specs.Bits.{field}
use Rattle.math.specs.Vector.{zero_f, one_f}
use Rattle.block.specs.Edition.{edition_in}
use Rattle.block.specs.Crease.{crease_of}
use Rattle.block.specs.declared.texture.Pair.{Pair}
use Rattle.block.specs.declared.texture.TexTransform.{TexTransform}
use Rattle.block.specs.declared.settings.Settings.{Settings}

-- FORMAT 2.3: float k of the twelve, after the words of the header
abbrev pub float_at : List ℕ → ℕ → Float
float_at bs k = of_bits binary32 (field bs (32 * ((edition_in bs).header_words + k)) 32)

-- FORMAT 2.3: x, or the other where x is not finite
abbrev pub finite_or : Float → Float → Float
finite_or x other = cond (finite x) x other

-- FORMAT 2.3: both of a pair change together
unfoldable pub pair_or : Pair → Pair → Pair
pair_or p other = cond (finite p.s && finite p.t) p other

abbrev pub pair : Float → Float → Pair
pair s t = record { s = s; t = t }

-- FORMAT 2.3, TexTransform::from_node: centre, sine and cosine of the rotation, scale, translation, each by itself
unfoldable pub finite_transform : TexTransform → TexTransform
finite_transform x =
    let rotation = pair_or (pair x.sine x.cosine) (pair zero_f one_f) in
    record {
      center = pair_or x.center (pair zero_f zero_f);
      sine = rotation.s;
      cosine = rotation.t;
      scale = pair_or x.scale (pair one_f one_f);
      translation = pair_or x.translation (pair zero_f zero_f);
    }

-- FORMAT 2.3: floats k and k + 1 of the twelve
abbrev pub pair_at : List ℕ → ℕ → Pair
pair_at bs k = pair (float_at bs k) (float_at bs (k + 1))

-- FORMAT 2.3: that of a block
unfoldable pub transform_of : List ℕ → TexTransform
transform_of bs =
    finite_transform
    (record {
      center = pair_at bs 4;
      sine = float_at bs 6;
      cosine = float_at bs 7;
      scale = pair_at bs 8;
      translation = pair_at bs 10;
    })

-- FORMAT 2.3: crease angle, its cosine as given, each spacing alone, the texture transform
unfoldable pub settings_of : List ℕ → Settings
settings_of bs =
    record {
      crease = crease_of (finite_or (float_at bs 0) zero_f) (float_at bs 1);
      x_spacing = finite_or (float_at bs 2) one_f;
      z_spacing = finite_or (float_at bs 3) one_f;
      transform = transform_of bs;
    }
