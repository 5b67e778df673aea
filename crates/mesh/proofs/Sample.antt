-- What the computed rows write lists and vectors with.
use Prim.Native.Nat.{ℕ}
use Rattle.bits.specs.declared.Words3.{Words3}

-- -1, and the bits of 1.0
abbrev pub end : ℕ
end = 0xffff_ffff

abbrev pub w1 : ℕ
w1 = 0x3f80_0000

abbrev pub v : ℕ → ℕ → ℕ → Words3
v x y z = record { x = x; y = y; z = z }
