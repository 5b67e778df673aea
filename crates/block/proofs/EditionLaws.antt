-- What holds of every edition: its fields fit in a word, its header is short, and its limit and its counts are low.
use Prim.Native.Nat.{ℕ, zero, suc, ◌+◌, ◌*◌, ◌≤◌, ◌<◌}
use mathlib.Core.Path.{◌≡◌, refl}
use mathlib.Core.List.{List}
use native.Mathlib.Nat.{lt_of_lt_of_le, mul-le-mul}
use native.Mathlib.Omega.{arith}
use lib.ListN.{get_or}
use lib.Pow.{pow_mono}
use Rattle.bits.specs.Bits.{field}
use Rattle.bits.proofs.Fields.{field_lt}
use Rattle.math.specs.Whole.{Exact}
use Rattle.block.specs.Edition.{edition1, edition_of, limit_of, highest, edition_in, counts_at, zeros_at}
use Rattle.block.specs.Header.{Narrow, counts_of, header_of}

module _ (n : ℕ) where
  pub narrow : Narrow (edition_of n)
  unfolding edition_of edition1
  narrow = record { counts = omega arith; width = omega arith; zeros = omega arith }

  pub header_short : (edition_of n).header_words ≤ 32
  unfolding edition_of edition1
  header_short = omega arith

  -- a count is an f32 without loss
  pub count_bits_low : (edition_of n).count_bits ≤ 24
  unfolding edition_of edition1
  count_bits_low = omega arith

  pub limit_low : limit_of n ≤ highest
  unfolding edition_of edition1
  limit_low = omega arith

pub short_in : (bs : List ℕ) → (edition_in bs).header_words ≤ 32
short_in bs = header_short (field bs 0 4)

-- the fields of a header fill its words
module _ (n : ℕ) where
  pub header_full : zeros_at (edition_of n) + (edition_of n).zero_bits ≡ 32 * (edition_of n).header_words
  unfolding edition_of edition1
  header_full = refl

  pub count_ahead : (k : ℕ) → k < 8 → counts_at + k * (edition_of n).count_bits + (edition_of n).count_bits ≤ 32 * (edition_of n).header_words
  unfolding edition_of edition1
  count_ahead k h = omega arith

-- the bits before a count, and before the zero bits
pub field_room : {k w : ℕ} → k ≤ 32 → w ≤ 32 → k * w ≤ 1024
field_room h l = mul-le-mul {n₂ = 32} {m₂ = 32} h l

-- so each count of a header is one
module _ (bs : List ℕ) where
  few : (i : ℕ) → Exact (field bs i (edition_in bs).count_bits)
  few i = lt_of_lt_of_le (field_lt bs i (edition_in bs).count_bits) (pow_mono (count_bits_low (field bs 0 4)))

  pub count_narrow : (k : ℕ) → Exact (get_or (header_of bs).counts k 0)
  unfolding header_of counts_of
  count_narrow zero = few (counts_at + 0 * (edition_in bs).count_bits)
  count_narrow (suc zero) = few (counts_at + 1 * (edition_in bs).count_bits)
  count_narrow (suc (suc zero)) = few (counts_at + 2 * (edition_in bs).count_bits)
  count_narrow (suc (suc (suc zero))) = few (counts_at + 3 * (edition_in bs).count_bits)
  count_narrow (suc (suc (suc (suc zero)))) = few (counts_at + 4 * (edition_in bs).count_bits)
  count_narrow (suc (suc (suc (suc (suc zero))))) = few (counts_at + 5 * (edition_in bs).count_bits)
  count_narrow (suc (suc (suc (suc (suc (suc zero)))))) = few (counts_at + 6 * (edition_in bs).count_bits)
  count_narrow (suc (suc (suc (suc (suc (suc (suc zero))))))) = few (counts_at + 7 * (edition_in bs).count_bits)
  count_narrow (suc (suc (suc (suc (suc (suc (suc (suc k)))))))) = omega arith
