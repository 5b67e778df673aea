-- A row of what is read for words that are not finite. FORMAT 2.3.
use Prim.Native.Nat.{ℕ}
use mathlib.Core.Path.{◌≡◌, refl}
use mathlib.Core.List.{List, [], ◌∷◌, ◌++◌}
use lib.Ieee.{Float, binary32, of_bits, le}
use lib.ListN.{replicate}
use Rattle.bits.specs.Bits.{field, bytes_of}
use Rattle.math.specs.Vector.{zero_f, one_f}
use Rattle.block.specs.Edition.{edition1, edition_of, header_bytes}
use Rattle.block.specs.Crease.{crease_of}
use Rattle.block.specs.Settings.{pair_or, finite_transform, transform_of, settings_of}
use Rattle.block.specs.declared.crease.CreaseRule.TheVariants.{Own}

abbrev pub infinite : ℕ
infinite = 0x7f80_0000

abbrev pub no_number : ℕ
no_number = 0x7fc0_0000

abbrev pub two : ℕ
two = 0x4000_0000

-- crease angle NaN is 0; x spacing infinite is 1, and z spacing stays 2; an infinite x of the centre and a cosine that is NaN replace both of their pair
unfoldable pub odd_block : List ℕ
odd_block = replicate (header_bytes edition1) 0 ++ bytes_of (no_number ∷ two ∷ infinite ∷ two ∷ infinite ∷ two ∷ two ∷ no_number ∷ two ∷ two ∷ two ∷ infinite ∷ [])

abbrev pub two_f : Float
two_f = of_bits binary32 two

pub settings_row : settings_of odd_block
    ≡ record {
      crease = Own;
      x_spacing = one_f;
      z_spacing = two_f;
      transform =
          record {
            center = record { s = zero_f; t = zero_f };
            sine = zero_f;
            cosine = one_f;
            scale = record { s = two_f; t = two_f };
            translation = record { s = zero_f; t = zero_f };
          };
    }
unfolding odd_block settings_of transform_of finite_transform pair_or crease_of field of_bits le edition_of edition1
settings_row = refl
