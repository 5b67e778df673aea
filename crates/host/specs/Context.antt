-- FORMAT 17.12: the flags and the texture transform of a part, as a host gives them.
use Rattle.std.specs.Prelude.{ℕ, Bool, not, List, eqb, leb, length, get_or, Float}
use Rattle.std.specs.Bool.{then_some}
use Rattle.std.specs.Float.{nan}
use Rattle.block.specs.declared.texture.TexTransform.{TexTransform}
use Rattle.parts.specs.declared.vert.GeomCtx.{GeomCtx}

-- FORMAT 17.12: 0 is off, anything else on
unfoldable pub is_on : ℕ → Bool
is_on flag = not (eqb flag 0)

-- FORMAT 17.12: the first eight of a list; where there are fewer the transform is not used
unfoldable pub given_transform : List Float → TexTransform
given_transform xs =
    record {
      center = record { s = get_or xs 0 nan; t = get_or xs 1 nan };
      sine = get_or xs 2 nan;
      cosine = get_or xs 3 nan;
      scale = record { s = get_or xs 4 nan; t = get_or xs 5 nan };
      translation = record { s = get_or xs 6 nan; t = get_or xs 7 nan };
    }

-- FORMAT 17.12: whether texture is wanted, and a transform where there are eight floats or more
unfoldable pub ctx_of : ℕ → List Float → GeomCtx
ctx_of uvs xs = record { need_uvs = is_on uvs; transform = then_some (leb 8 (length xs)) (given_transform xs) }
