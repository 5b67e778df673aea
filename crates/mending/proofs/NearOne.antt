-- A normal whose length is 1 but for some roundings is kept. There are 97 squares of such a length, and the root of each is taken here.
use mathlib.Core.Path.{◌≡◌, refl, sym, ap, ◌∙◌}
use mathlib.Core.Bool.{Bool, true, false, not, ◌||◌, cond}
use mathlib.Core.List.{List}
use Prim.Native.Nat.{ℕ, ◌+◌, ◌*◌, ◌≤◌, ◌<◌}
use borrow.Author.Tests.{leb-true, ltb-true}
use lib.Dec.{leb, ltb}
use lib.ListN.{length}
use lib.Ieee.{Float, binary32, mul, add, sub, div, lt, of_bits, to_bits}
use lib.Ieee.Bits.{of_bits-to_bits}
use lib.Ieee.Fits.{add-fits}
use Rattle.bits.specs.declared.Words3.{Words3}
use Rattle.math.specs.declared.vector.V3.{V3}
use Rattle.std.specs.Prelude.{Some, None}
use Rattle.math.specs.SquareRoot.{root_of}
use Rattle.math.specs.Vector.{vscale, vdot, vlen, usable, one_f}
use Rattle.math.specs.Order.{magnitude}
use Rattle.lists.specs.Loops.{first}
use Rattle.lists.proofs.Searches.{first_below}
use Rattle.lists.proofs.Tests.{and_left, and_right, neither}
use Rattle.mesh.specs.Words.{floats, point_words}
use Rattle.mesh.specs.Mend.{visible}
use Rattle.mending.specs.Mend.{near_one, Mends}
use Rattle.mending.proofs.Fixing.{mend_scaled, mends_kept}

-- the length with this square cannot be scaled, or is visibly off 1
unfoldable off : ℕ → Bool
off b = let l = root_of (of_bits binary32 b) in not (usable l) || lt visible (magnitude (sub binary32 l one_f))

none_off : first off 97 0x3f7f_ffc0 ≡ 0x3f80_0021
unfolding first off root_of magnitude of_bits to_bits lib.Ieee.sub lib.Ieee.lt
none_off = refl

near_off : (b : ℕ) → near_one b ≡ true → off b ≡ false
unfolding near_one
near_off b h =
    let lo : 0x3f7f_ffc0 ≤ b = leb-true 0x3f7f_ffc0 b (and_left (leb 0x3f7f_ffc0 b) (ltb b 0x3f80_0021) h) in
    let hi : b < 0x3f80_0021 = ltb-true b 0x3f80_0021 (and_right (leb 0x3f7f_ffc0 b) (ltb b 0x3f80_0021) h) in
    first_below off 97 0x3f7f_ffc0 b lo (rw none_off hi)

-- d is the square of the length of vertex v's normal, whose words are w
pub near_kept : (ps is : List ℕ) (count : ℕ) (ns : List ℕ) (v : ℕ) (w : Words3) (d : Float) → v * 3 + 3 ≤ length ns → w ≡ point_words ns v
    → d ≡ vdot (floats w) (floats w) → near_one (to_bits binary32 d) ≡ true → Mends ps is count v 1 ns ns
unfolding vlen off
near_kept ps is count ns v w d room ew ed h =
    let n = floats w in
    let b = to_bits binary32 d in
    let fit = add-fits binary32 (add binary32 (mul binary32 n.x n.x) (mul binary32 n.y n.y)) (mul binary32 n.z n.z) in
    let back : vdot n n ≡ of_bits binary32 b = sym (of_bits-to_bits binary32 (vdot n n) fit) ∙ ap (λ (d : Float). of_bits binary32 (to_bits binary32 d)) (sym ed) in
    let l : Float = root_of (of_bits binary32 b) in
    let q : (usable l ≡ true) × (lt visible (magnitude (sub binary32 l one_f)) ≡ false) = neither (usable l) (lt visible (magnitude (sub binary32 l one_f))) (near_off b h) in
    let u : V3 = vscale n (div binary32 one_f l) in
    mends_kept ps is count v w room ew (mend_scaled w u _ l false (sym (ap root_of back)) (ap (λ (t : Bool). cond t (Some u) None) q.0) q.1)
