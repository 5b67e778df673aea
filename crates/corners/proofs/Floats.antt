-- A generated normal read in range: what is read beyond the floats does not matter.
use mathlib.Core.Path.{◌≡◌, ap, ◌∙◌}
use mathlib.Core.List.{List}
use Prim.Native.Nat.{ℕ, ◌+◌, ◌*◌, ◌≤◌, ◌<◌}
use native.Mathlib.Omega.{arith}
use lib.ListN.{length, get_or}
use lib.Ieee.{Float, nan, binary32, to_bits}
use Rattle.bits.specs.declared.Words3.{Words3}
use Rattle.math.specs.Vector as vector
use Rattle.lists.proofs.Lists.{get_or_any}
use Rattle.corners.specs.Corner.{generated_at}

float_word : (l : List Float) (i x : ℕ) → x ≡ to_bits binary32 (get_or l i nan) → i < length l → x ≡ to_bits binary32 (get_or l i vector.zero_f)
float_word l i x e h = e ∙ ap (to_bits binary32) (get_or_any l i nan vector.zero_f h)

pub generated_words : (l : List Float) (c : ℕ) (w : Words3) → 3 * c + 3 ≤ length l → w.x ≡ to_bits binary32 (get_or l (3 * c) nan)
    → w.y ≡ to_bits binary32 (get_or l (3 * c + 1) nan) → w.z ≡ to_bits binary32 (get_or l (3 * c + 2) nan) → w ≡ generated_at l c
unfolding generated_at
generated_words l c w h ex ey ez =
    let a = float_word l (3 * c) w.x ex (omega arith) in
    let b = float_word l (3 * c + 1) w.y ey (omega arith) in
    let d = float_word l (3 * c + 2) w.z ez (omega arith) in
    λ i. record { x = a i; y = b i; z = d i }
