-- FORMAT 4, for worked cases: slices just long enough for a block that is accepted meet what is asked.
use mathlib.Core.Path.{◌≡◌, refl, sym, subst}
use mathlib.Core.Bool.{false}
use mathlib.Core.List.{List}
use Prim.Native.Nat.{ℕ, ◌+◌, ◌*◌}
use native.Mathlib.Omega.{arith}
use lib.ListN.{length, replicate, length-replicate}
use Rattle.block.specs.declared.kind.Kind.{Kind}
use Rattle.block.specs.Header.{header_of}
use Rattle.block.specs.Settings.{settings_of}
use Rattle.block.proofs.Table.{taken_of}
use Rattle.block.proofs.TableRows.{number}
use Rattle.mesh.specs.Mesh.{Slices}
use Rattle.mesh.specs.Sizes.{Sizes, sizes_of, is_no_shape, is_over_corners}
use Rattle.lent.specs.Lent.{Enough, Asked}

abbrev pub just : Sizes → Slices
just z =
    record {
      sources = replicate z.corners 7;
      positions = replicate (3 * z.corners) 7;
      normals = replicate (3 * z.corners) 7;
      colours = replicate (4 * z.corners) 7;
      textures = replicate (2 * z.corners) 7;
      indices = replicate z.indices 7;
    }

abbrev pub words : Sizes → ℕ
words z = 8 * (z.corners + z.points) + 8

just_enough : (z : Sizes) → Enough z (just z) (words z) (words z)
just_enough z =
    let n : (k : ℕ) → length {A = ℕ} (replicate k 7) ≡ k = λ k. length-replicate k 7 in
    record {
      positions = omega (arith, n (3 * z.corners));
      normals = omega (arith, n (3 * z.corners));
      colours = omega (arith, n (4 * z.corners));
      textures = omega (arith, n (2 * z.corners));
      sources = omega (arith, n z.corners);
      indices = omega (arith, n z.indices);
      words = omega arith;
      floats = omega arith;
    }

pub just_asked : {k : Kind} {bs : List ℕ} {z : Sizes} → number bs ≡ 0 → (header_of bs).kind ≡ k → sizes_of bs (header_of bs) ≡ z → is_no_shape (header_of bs) ≡ false
    → is_over_corners bs (header_of bs) ≡ false → Asked k bs (header_of bs) (settings_of bs) (just z) (words z) (words z)
just_asked {bs = bs} {z = z} t k e n c = record {
  accepted = record { header = refl; settings = refl; taken = taken_of bs (header_of bs) t; shape = n; corners = c };
  kind = k;
  enough = subst (λ (x : Sizes). Enough x (just z) (words z) (words z)) (sym e) (just_enough z);
}
