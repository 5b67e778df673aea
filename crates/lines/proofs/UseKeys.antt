-- FORMAT 6.3, 11: the keys of a line set's corners, from the corners as they are listed.
use mathlib.Core.Path.{◌≡◌, refl, sym, ap, ◌∙◌}
use mathlib.Core.Bool.{Bool, true, false, cond}
use Rattle.std.specs.Prelude.{None, Some}
use mathlib.Core.List.{List, [], ◌∷◌, ◌++◌, map, map-append}
use Prim.Native.Nat.{ℕ, suc}
use lib.Dec.{ltb}
use lib.ListN.{length, length-map}
use Rattle.bits.specs.Bits.{entries}
use Rattle.bits.specs.declared.Words4.{Words4}
use Rattle.block.specs.Runs.{Run, runs, sum_over}
use Rattle.lists.specs.Lists.{map_n, join_n}
use Rattle.mesh.specs.Words.{no2, no3}
use Rattle.mesh.specs.Vertices.{Key}
use Rattle.mesh.specs.FaceSet.{Rest, point_count, colour_of}
use Rattle.mesh.specs.Lines.{these, somes, item_of, items_of, line_keys}
use Rattle.mesh.specs.Sizes.{named}
use Rattle.lines.specs.Uses.{LineUse, use_of, run_uses, line_uses}
use Rattle.lines.proofs.Usage.{length_uses}

module _ (missing : Words4) (R : Rest) (coord : List ℕ) where
  -- the key of a corner
  abbrev pub key_for : LineUse → Key
  key_for u = record { point = u.point; normal = no3; colour = colour_of missing R coord u.number u.place; texture = no2 }

  keys_run : (num k : ℕ) (es : List ℕ) → somes (map_n (item_of missing R coord num) k es) ≡ map key_for (somes (map_n (use_of (point_count R.head) num) k es))
  unfolding somes map_n item_of use_of
  keys_run num k [] = refl
  keys_run num k (e ∷ es) = go (ltb e (point_count R.head)) (record { point = e; place = k; number = num }) _ _ (keys_run num (suc k) es)
    where
      go : (b : Bool) (u : LineUse) (l : List Key) (r : List LineUse) → l ≡ map key_for r
          → these (cond b (Some (key_for u)) None) ++ l ≡ map key_for (these (cond b (Some u) None) ++ r)
      go true u l r h = ap (λ (q : List Key). key_for u ∷ q) h
      go false u l r h = h

  keys_from : (num : ℕ) (rs : List Run) → join_n (line_keys missing R coord) num rs ≡ map key_for (join_n (run_uses (point_count R.head)) num rs)
  unfolding join_n line_keys items_of run_uses
  keys_from num [] = refl
  keys_from num (r ∷ rs) =
      (λ i. keys_run num r.start r.items i ++ keys_from (suc num) rs i)
      ∙ sym (map-append key_for (run_uses (point_count R.head) num r) (join_n (run_uses (point_count R.head)) (suc num) rs))

  pub keys_uses : join_n (line_keys missing R coord) 0 (runs (entries coord)) ≡ map key_for (line_uses (point_count R.head) (entries coord))
  unfolding line_uses
  keys_uses = keys_from 0 (runs (entries coord))

  pub keys_count : length (join_n (line_keys missing R coord) 0 (runs (entries coord))) ≡ sum_over (named (point_count R.head)) (runs (entries coord))
  keys_count = ap length keys_uses ∙ length-map (line_uses (point_count R.head) (entries coord)) key_for ∙ length_uses (point_count R.head) (entries coord)
