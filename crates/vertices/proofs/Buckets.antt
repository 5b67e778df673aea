-- The bucket of a corner's key, from its words.
use mathlib.Core.Path.{◌≡◌}
use mathlib.Core.List.{List}
use Prim.Native.Nat.{ℕ, ◌+◌, ◌*◌, ◌/◌, ◌^◌}
use Rattle.lists.specs.Parts.{seg}
use Rattle.vertices.specs.declared.places.Widths.{Widths}
use Rattle.vertices.specs.Places.{colour_start, texture_start}
use Rattle.vertices.specs.Hash.{normal_sum, colour_sum, texture_sum, spread_of, hash_of, bucket_of}
use Rattle.vertices.specs.Search.{two, three, four, corner_key}

module _ (w : Widths) (v : ℕ) (l : List ℕ) (n : ℕ) where
  pub corner_bucket : {a b c h : ℕ} → a ≡ normal_sum (three (seg l 0 w.normal)) → b ≡ colour_sum (four (seg l colour_start w.colour))
      → c ≡ texture_sum (two (seg l texture_start w.texture)) → h ≡ spread_of (v * 0x9e3779b + a + b + c) → h * n / 2 ^ 32 ≡ bucket_of n (corner_key w v l)
  unfolding bucket_of hash_of corner_key
  corner_bucket ea eb ec eh = rw (eh, ea, eb, ec)
