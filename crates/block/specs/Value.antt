-- What an attribute's list holds at a number. FORMAT 7.2.
use Rattle.std.specs.Prelude.{ℕ, ◌+◌, ◌*◌, ◌/◌, Bool, true, false, cond, List, ltb, length, Option, Some, None}
use Rattle.bits.specs.Bits.{word_at}
use Rattle.bits.specs.declared.Words2.{Words2}
use Rattle.bits.specs.declared.Words3.{Words3}
use Rattle.bits.specs.declared.Words4.{Words4}
use Rattle.block.specs.declared.value.Rgb.{Rgb}
use Rattle.block.specs.declared.value.Rgba.{Rgba}

-- how many values of w words a list of bytes holds
abbrev pub count_of : ℕ → List ℕ → ℕ
count_of w values = length values / (4 * w)

-- word j of value n
abbrev pub value_word : ℕ → List ℕ → ℕ → ℕ → ℕ
value_word w values n j = word_at values (4 * w * n + 4 * j)

-- FORMAT 7.2: the value that `made` reads at the number found, or the missing one where the list has none there
unfoldable pub value_at : {A : Type 0} → (ℕ → A) → ℕ → List ℕ → Option ℕ → A → A
value_at made w values (Some n) missing = cond (ltb n (count_of w values)) (made n) missing
value_at made w values None missing = missing

-- the words of a texture point, and of a normal
abbrev pub words2 : List ℕ → ℕ → Words2
words2 values n = record { s = value_word 2 values n 0; t = value_word 2 values n 1 }

abbrev pub words3 : List ℕ → ℕ → Words3
words3 values n = record { x = value_word 3 values n 0; y = value_word 3 values n 1; z = value_word 3 values n 2 }

-- a colour of 3 words has alpha 1
abbrev pub opaque_of : Words3 → Words4
opaque_of v = record { r = v.x; g = v.y; b = v.z; a = 0x3f80_0000 }

-- a colour of 4 words, or of 3 (colors_of)
abbrev pub words4 : Bool → List ℕ → ℕ → Words4
words4 true values n = record { r = value_word 4 values n 0; g = value_word 4 values n 1; b = value_word 4 values n 2; a = value_word 4 values n 3 }
words4 false values n = opaque_of (words3 values n)

-- the two colours as values of their own
abbrev pub rgba : List ℕ → ℕ → Rgba
rgba values n = record { 0 = words4 true values n }

abbrev pub rgb : List ℕ → ℕ → Rgb
rgb values n = record { 0 = words4 false values n }

-- FORMAT 7.2: the read for each width
abbrev pub value2_at : List ℕ → Option ℕ → Words2 → Words2
value2_at values found missing = value_at (words2 values) 2 values found missing

abbrev pub value3_at : List ℕ → Option ℕ → Words3 → Words3
value3_at values found missing = value_at (words3 values) 3 values found missing

abbrev pub value4_at : List ℕ → Bool → Option ℕ → Words4 → Words4
value4_at values alpha found missing = value_at (words4 alpha values) (cond alpha 4 3) values found missing
