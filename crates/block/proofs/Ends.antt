-- What the entries of an index list say, for those who write one: -1 ends a run, and no other word does; the number of a point is not negative. FORMAT 6.1, 7.1.
use Prim.Native.Nat.{ℕ, ◌<◌}
use mathlib.Core.Path.{◌≡◌, refl}
use mathlib.Core.Bool.{true, false}
use native.Mathlib.Omega.{arith}
use borrow.Author.Tests.{lt-leb, ne_eqb}
use Rattle.block.specs.Runs.{ends_run}
use Rattle.block.specs.Stream.{is_negative}

pub minus_one_ends : ends_run 0xffff_ffff ≡ true
unfolding ends_run
minus_one_ends = refl

pub number_goes_on : (w : ℕ) → w < 0xffff_ffff → ends_run w ≡ false
unfolding ends_run
number_goes_on w h = ne_eqb w 0xffff_ffff (λ e. let z : ⊥ = omega arith in z)

pub not_negative : (w : ℕ) → w < 0x8000_0000 → is_negative w ≡ false
unfolding is_negative
not_negative w h = lt-leb 0x8000_0000 w h
