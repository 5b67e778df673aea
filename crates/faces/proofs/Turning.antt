-- The loop over the kept faces: start, one turn, end. The next face goes behind the last.
use mathlib.Core.Path.{◌≡◌, sym, ap, ap₂, ◌∙◌}
use mathlib.Core.Bool.{Bool}
use mathlib.Core.List.{List, [], ◌++◌}
use Prim.Native.Nat.{ℕ, suc, ◌+◌, ◌-◌, ◌*◌, ◌≤◌, ◌<◌}
use native.Mathlib.Nat.{zero-add, sub-zero}
use native.Mathlib.Numerals.{add-one}
use native.Mathlib.Omega.{arith}
use lib.Ieee.{Float}
use lib.ListN.{length}
use Rattle.lists.specs.Loops.{tab, run}
use Rattle.lists.proofs.Loops.{run_go, run_end}
use Rattle.lists.specs.Lists.{flat}
use Rattle.tables.specs.declared.layout.Plan.{Plan}
use Rattle.lists.specs.Parts.{Kept, spliced}
use Rattle.tables.specs.Soups.{start_in}
use Rattle.lists.proofs.Keep.{kept_all, kept_then}
use Rattle.lists.proofs.Putting.{Split, splices, Left, left_all, left_here, left_spliced, left_end}
use Rattle.tables.proofs.Stays.{sound_kept}
use Rattle.lists.proofs.Splices.{splice_front}
use Rattle.faces.specs.Indices.{one_face, all_faces, one_floats, all_floats, Ready, Put, Made}
use Rattle.faces.proofs.Pieces.{length_one, one_kept, one_floats_lem}

module _ (w₀ : List ℕ) (t : Plan) (ccw convex : Bool) where
  -- the faces from g on
  pub rest : ℕ → List ℕ
  rest g = flat (tab (one_face w₀ t ccw convex) (t.faces - g) g)

  -- g faces are done, and the next goes to `at`
  pub record Facing (o₀ o w : List ℕ) (f₀ f : List Float) (g at : ℕ) : Type 0 where
    pub within : g ≤ t.faces
    pub kept : Kept t.places w₀ w
    pub left : Left spliced (all_faces w₀ t ccw convex) 0 o₀ (rest g) at o
    pub floats : run (one_floats w₀ t ccw convex) (t.faces - g) g f ≡ all_floats w₀ t ccw convex f₀

  rest_all : rest 0 ≡ all_faces w₀ t ccw convex
  unfolding all_faces rest
  rest_all = ap (λ (k : ℕ). flat (tab (one_face w₀ t ccw convex) k 0)) (sub-zero t.faces)

  rest_now : (g : ℕ) → g < t.faces → rest g ≡ one_face w₀ t ccw convex g ++ rest (suc g)
  unfolding rest tab flat
  rest_now g h = let e : t.faces - g ≡ suc (t.faces - suc g) = omega arith in ap (λ (k : ℕ). flat (tab (one_face w₀ t ccw convex) k g)) e

  rest_none : (g : ℕ) → t.faces ≤ g → rest g ≡ []
  unfolding rest tab flat
  rest_none g h = let e : t.faces - g ≡ 0 = omega arith in ap (λ (k : ℕ). flat (tab (one_face w₀ t ccw convex) k g)) e

  pub facing_start : (o : List ℕ) (f : List Float) → Facing o o w₀ f f 0 0
  unfolding all_floats
  facing_start o f = record {
    within = omega arith;
    kept = kept_all;
    left = rw rest_all (left_all spliced);
    floats = ap (λ (k : ℕ). run (one_floats w₀ t ccw convex) k 0 f) (sub-zero t.faces);
  }

  module _ {floats : ℕ} (Q : Ready w₀ t floats) {o₀ o w : List ℕ} {f₀ f : List Float} {g at : ℕ} (F : Facing o₀ o w f₀ f g at) where
    pub facing_ready : (n : ℕ) → n ≡ floats → Ready w t n
    facing_ready n e =
        let R = Q.sound.room in
        let l = F.kept.len in
        let s = Q.scratch in
        let p = Q.plane in
        record { sound = sound_kept F.kept t (omega arith) Q.sound; scratch = omega (arith, l, s); plane = omega (arith, e, p) }

    module _ (h : g < t.faces) where
      same : one_face w t ccw convex g ≡ one_face w₀ t ccw convex g
      same = one_kept F.kept Q.sound ccw convex g h

      split : Split (rest g) (one_face w t ccw convex g) (rest (g + 1))
      split = record { is = rest_now g h ∙ ap₂ (λ (l m : List ℕ). l ++ m) (sym same) (ap rest (sym (add-one g))) }

      pub facing_room : length (all_faces w₀ t ccw convex) ≤ length o₀ → at + (start_in w t (suc g) - start_in w t g - 2) * 3 ≤ length o
      facing_room b =
          let R = Q.sound.room in
          let e = length_one (sound_kept F.kept t (omega arith) Q.sound) ccw convex g h in
          omega (arith, e, left_here F.left split, F.left.len, b)

      pub facing_go : length (all_faces w₀ t ccw convex) ≤ length o₀ → (o' w' : List ℕ) (f' : List Float) (r : ℕ) → Put t (one_face w t ccw convex g) (one_floats w t ccw convex g f) at r o o' w w' f'
          → Facing o₀ o' w' f₀ f' (g + 1) r
      facing_go b o' w' f' r P =
          record {
            within = omega arith;
            kept = kept_then F.kept P.kept (omega arith);
            left = left_spliced F.left (omega (arith, b)) split (record { next = P.next; made = P.made });
            floats =
                ap (run (one_floats w₀ t ccw convex) (t.faces - (g + 1)) (g + 1)) (P.floats ∙ one_floats_lem F.kept Q.sound ccw convex g h f)
                ∙ sym (run_go (one_floats w₀ t ccw convex) t.faces g f h) ∙ F.floats;
          }

  pub facing_end : (o₀ o w : List ℕ) (f₀ f : List Float) (g at : ℕ) → t.faces ≤ g → Facing o₀ o w f₀ f g at
      → Made t (all_faces w₀ t ccw convex) (all_floats w₀ t ccw convex f₀) at o₀ o w₀ w f
  facing_end o₀ o w f₀ f g at h F =
      let A = left_end F.left splices (rest_none g h) in
      record {
        count = A.next ∙ zero-add (length (all_faces w₀ t ccw convex));
        made = A.made ∙ splice_front o₀ (all_faces w₀ t ccw convex);
        kept = F.kept;
        floats = sym (run_end (one_floats w₀ t ccw convex) t.faces g f h) ∙ F.floats;
      }
