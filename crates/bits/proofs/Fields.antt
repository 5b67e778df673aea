-- Laws of fields: the bound, a field in two parts, a byte is a field of 8 bits, a word by its bytes. Assumes nothing.
use Prim.Native.Nat.{ℕ, zero, suc, ◌+◌, ◌-◌, ◌*◌, ◌/◌, ◌%◌, ◌^◌, ◌≤◌, ◌<◌}
use mathlib.Core.Path.{◌≡◌, refl}
use mathlib.Core.List.{List, [], ◌∷◌}
use native.Mathlib.Nat.{add-zero, add-suc, pow-suc, mul-one, mul_assoc, add_assoc}
use native.Mathlib.Omega.{arith}
use native.Mathlib.Numerals.{add-one}
use lib.Dec.{lit≤}
use lib.Pow.{pow_mono, shr-shr}
use lib.ListN.{get_or}
use Rattle.std.specs.Int.{from_be_bytes, w32}
use Rattle.bits.specs.Bits.{bit_at, field, word_at}

pub field_lt : (bs : List ℕ) (i n : ℕ) → field bs i n < 2 ^ n
unfolding field
field_lt bs i zero = omega arith
field_lt bs i (suc n) = let h : field bs i n < 2 ^ n = field_lt bs i n in rw pow-suc (omega arith)

pub field_add : (bs : List ℕ) (i m n : ℕ) → field bs i (m + n) ≡ field bs i m * 2 ^ n + field bs (i + m) n
unfolding field
field_add bs i m zero = rw (add-zero, mul-one) (omega arith)
field_add bs i m (suc n) = rw (add-suc, pow-suc, field_add bs i m n, add_assoc i m n) (omega (arith, mul_assoc (field bs i m) (2 ^ n) 2))

-- bit j of byte k
bit_of : (bs : List ℕ) (k j : ℕ) → j < 8 → bit_at bs (k * 8 + j) ≡ get_or bs k 0 / 2 ^ (7 - j) % 2
bit_of bs k j h =
    let q : (k * 8 + j) / 8 ≡ k = omega arith in
    let r : (k * 8 + j) % 8 ≡ j = omega arith in
    rw (q, r)

-- the first n bits of byte k are its n highest
top_is : (bs : List ℕ) (k n : ℕ) → get_or bs k 0 < 256 → n ≤ 8 → field bs (k * 8) n ≡ get_or bs k 0 / 2 ^ (8 - n)
unfolding field
top_is bs k zero h l = omega arith
top_is bs k (suc n) h l =
    let e : 8 - n ≡ (8 - suc n) + 1 = omega arith in
    let f : 7 - n ≡ 8 - suc n = omega arith in
    rw (bit_of bs k n l, top_is bs k n h (omega arith), e, ← (shr-shr (get_or bs k 0) (8 - suc n) 1), f) (omega arith)

pub byte_is : (bs : List ℕ) (k : ℕ) → get_or bs k 0 < 256 → field bs (k * 8) 8 ≡ get_or bs k 0
byte_is bs k h = let e = top_is bs k 8 h (lit≤ tt) in omega arith

-- one byte more below a field of whole bytes
pub byte_more : (bs : List ℕ) (k n : ℕ) → get_or bs (k + n) 0 < 256 → field bs (k * 8) (n * 8 + 8) ≡ field bs (k * 8) (n * 8) * 256 + get_or bs (k + n) 0
byte_more bs k n h =
    let e : k * 8 + n * 8 ≡ (k + n) * 8 = omega arith in
    rw (field_add, e, byte_is bs (k + n) h)

-- a turn of the loop that reads a field: the next bit, and that a field of less than 32 bits has room for one
pub field_more : (bs : List ℕ) (i k v b : ℕ) → v ≡ field bs i k → b ≡ bit_at bs (i + k) → v * 2 + b ≡ field bs i (k + 1)
unfolding field
field_more bs i k v b p q = rw (p, q, add-one)

pub field_room : (bs : List ℕ) (i k v : ℕ) → v ≡ field bs i k → k < 32 → v * 2 + 2 ≤ 2 ^ 32
field_room bs i k v p h =
    let l : field bs i k < 2 ^ k = field_lt bs i k in
    let m : 2 ^ k ≤ 2 ^ 31 = pow_mono {i = k} {j = 31} (omega arith) in
    omega arith

-- a word by its bytes
pub word_is : (bs : List ℕ) (at a b c d : ℕ) → a ≡ get_or bs at 0 → b ≡ get_or bs (at + 1) 0 → c ≡ get_or bs (at + 2) 0 → d ≡ get_or bs (at + 3) 0 → a < 256 → b < 256 → c < 256 → d < 256
    → ((a * 256 + b) * 256 + c) * 256 + d ≡ word_at bs at
word_is bs at a b c d ea eb ec ed la lb lc ld =
    let e1 = byte_more bs at 1 (omega arith) in
    let e2 = byte_more bs at 2 (omega arith) in
    let e3 = byte_more bs at 3 (omega arith) in
    let e0 = byte_is bs at (omega arith) in
    omega arith

pub word_of_bytes : (bs : List ℕ) (at : ℕ) → get_or bs at 0 < 256 → get_or bs (at + 1) 0 < 256 → get_or bs (at + 2) 0 < 256 → get_or bs (at + 3) 0 < 256
    → from_be_bytes w32 (get_or bs at 0 ∷ get_or bs (at + 1) 0 ∷ get_or bs (at + 2) 0 ∷ get_or bs (at + 3) 0 ∷ []) ≡ word_at bs at
word_of_bytes bs at la lb lc ld =
    let e = word_is bs at (get_or bs at 0) (get_or bs (at + 1) 0) (get_or bs (at + 2) 0) (get_or bs (at + 3) 0) refl refl refl refl la lb lc ld in
    omega arith
