-- The words of a key that are made, and the bucket of the key: a function of these words alone, so that equal keys have equal buckets.
use Rattle.std.specs.Prelude.{List, ℕ, ◌+◌, ◌*◌, ◌/◌, ◌%◌, ◌^◌, take}
use Rattle.std.specs.Int.Bits.{bit_xor}
use Rattle.bits.specs.declared.Words2.{Words2}
use Rattle.bits.specs.declared.Words3.{Words3}
use Rattle.bits.specs.declared.Words4.{Words4}
use Rattle.mesh.specs.Words.{words2, words3, words4}
use Rattle.mesh.specs.Vertices.{Key}
use Rattle.vertices.specs.declared.places.Widths.{Widths}

-- FORMAT 5: the words of a vertex in each slice
unfoldable pub normal_of : Widths → Key → List ℕ
normal_of w k = take w.normal (words3 k.normal)

unfoldable pub colour_of : Widths → Key → List ℕ
colour_of w k = take w.colour (words4 k.colour)

unfoldable pub texture_of : Widths → Key → List ℕ
texture_of w k = take w.texture (words2 k.texture)

-- the words of a key, each times a weight of its own: odd, of 28 bits, so that ten products and their sum are below 2 ^ 64
unfoldable pub normal_sum : Words3 → ℕ
normal_sum n = n.x * 0xb5297a5 + n.y * 0x85ebca7 + n.z * 0xc2b2ae3

unfoldable pub colour_sum : Words4 → ℕ
colour_sum c = c.r * 0xd6e8feb + c.g * 0xa136aaf + c.b * 0xe2d0b4d + c.a * 0x8f1bbcd

unfoldable pub texture_sum : Words2 → ℕ
texture_sum x = x.s * 0xca62c1d + x.t * 0x94d049b

-- both halves of a sum together, and a product that carries what differs into the high bits
unfoldable pub spread_of : ℕ → ℕ
spread_of s = bit_xor (s % 2 ^ 32) (s / 2 ^ 32) * 0xb5297a4d % 2 ^ 32

-- FORMAT 11: the hash of a key, of 32 bits. Words that are not made are 0
unfoldable pub hash_of : Key → ℕ
hash_of k = spread_of (k.point * 0x9e3779b + normal_sum k.normal + colour_sum k.colour + texture_sum k.texture)

-- its bucket of so many: the high bits decide, since the low ones of an f32 are often zeros
unfoldable pub bucket_of : ℕ → Key → ℕ
bucket_of buckets k = hash_of k * buckets / 2 ^ 32
