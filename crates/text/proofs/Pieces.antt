-- Texts put one after the other, and a loop of texts.
use Prim.Native.Nat.{ℕ, ◌+◌, ◌-◌, ◌*◌, ◌≤◌, ◌<◌}
use mathlib.Core.Path.{◌≡◌, refl, sym, ap, ◌∙◌, subst}
use mathlib.Core.List.{List, [], ◌++◌}
use native.Mathlib.Omega.{arith}
use native.Mathlib.Nat.{add-zero, zero-add, sub-zero}
use lib.ListN.{length, take, drop, length-append}
use lib.Seq.{sets, sets-eq, take_at, length-sets, length-take-le}
use Rattle.lists.specs.Loops.{tab}
use Rattle.lists.specs.Lists.{flat}
use Rattle.lists.proofs.Stores.{sets_append}
use Rattle.lists.proofs.Pieces.{flat_go, flat_end}
use Rattle.lists.proofs.Putting.{Split, stores, Left, left_all, left_stored, left_end}
use Rattle.text.specs.declared.writer.Writer.{Writer}
use Rattle.text.specs.Wrote.{Wrote, Writes, Printed}

-- one text after another
pub then : {x y z : Writer} {s t : List ℕ} {j k : ℕ} → Writes x s j y → Writes y t k z → Writes x (s ++ t) (j + k) z
then {x} {y} {z} {s} {t} {j} {k} v w =
    record {
      same = w.same ∙ v.same;
      wrote =
          record {
            bytes =
                w.wrote.bytes ∙ ap (λ (q : List ℕ). sets q y.at t) v.wrote.bytes ∙ ap (λ (q : ℕ). sets (sets x.out.now x.at s) q t) v.wrote.next
                ∙ sym (sets_append s t x.out.now x.at);
            next =
                let e : length (s ++ t) ≡ length s + length t = length-append s t in
                let p : y.at ≡ x.at + length s = v.wrote.next in
                let q : z.at ≡ y.at + length t = w.wrote.next in
                omega arith;
            near = let p : y.at ≤ x.at + j = v.wrote.near in let q : z.at ≤ y.at + k = w.wrote.near in omega arith;
          };
    }

pub nothing : (x : Writer) (k : ℕ) → Writes x [] k x
nothing x k = record { same = refl; wrote = record { bytes = refl; next = sym (add-zero x.at); near = omega arith } }

pub looser : {x y : Writer} {s : List ℕ} {j : ℕ} (k : ℕ) → j ≤ k → Writes x s j y → Writes x s k y
looser k h v = record { same = v.same; wrote = record { bytes = v.wrote.bytes; next = v.wrote.next; near = let p = v.wrote.near in omega arith } }

-- ---- a loop: i of n texts are put

pub record Going (f : ℕ → List ℕ) (k n : ℕ) (x y : Writer) (i : ℕ) : Type 0 where
  pub same : y.out.ghost_name ≡ x.out.ghost_name
  pub left : Left sets (flat (tab f n 0)) x.at x.out.now (flat (tab f (n - i) i)) y.at y.out.now
  pub near : y.at ≤ x.at + k * i
  pub most : i ≤ n

pub going_start : (f : ℕ → List ℕ) (k n : ℕ) (x : Writer) → Going f k n x x 0
going_start f k n x = record { same = refl; left = rw sub-zero (left_all sets); near = omega arith; most = omega arith }

pub going_step : {f : ℕ → List ℕ} {k n : ℕ} {x y z : Writer} {i : ℕ} → Going f k n x y i → i < n → Writes y (f i) k z → Going f k n x z (i + 1)
going_step {f} {k} {n} {i = i} g h w =
    let b : k * (i + 1) ≡ k * i + k = omega arith in
    let S : Split (flat (tab f (n - i) i)) (f i) (flat (tab f (n - (i + 1)) (i + 1))) = record { is = flat_go f n i h } in
    record {
      same = w.same ∙ g.same;
      left = left_stored g.left S (record { next = w.wrote.next; made = w.wrote.bytes });
      near = omega (arith, w.wrote.near, g.near);
      most = omega arith;
    }

pub going_end : {f : ℕ → List ℕ} {k n : ℕ} {x y : Writer} {i : ℕ} → Going f k n x y i → n ≤ i → Writes x (flat (tab f n 0)) (k * n) y
going_end {f} {k} {n} {x} {y} {i} g h =
    let A = left_end g.left stores (flat_end f n i h) in
    let e : i ≡ n = (let q : i ≤ n = g.most in omega arith) in
    record { same = g.same; wrote = record { bytes = A.made; next = A.next; near = subst (λ (q : ℕ). y.at ≤ x.at + k * q) e g.near } }

-- ---- a whole text: m is what the buffer holds at the end

pub left_in : {x y : Writer} {s m : List ℕ} {k : ℕ} → Writes x s k y → m ≡ y.out.now → Wrote x.out.now x.at s k m y.at
left_in v q = rw q v.wrote

pub printed : {x y : Writer} {s m : List ℕ} {k : ℕ} → x.at ≡ 0 → Writes x s k y → m ≡ y.out.now → Printed x.out.now s m y.at
printed {x} {y} {s} {m} {k} e v q =
    let w : Wrote x.out.now x.at s k m y.at = left_in v q in
    of (rw e at w) where
      of : {l m : List ℕ} {k r : ℕ} → Wrote l 0 s k m r → Printed l s m r
      of {l} w =
          record {
            bytes = w.bytes;
            long = w.next ∙ zero-add (length s);
            whole = λ h. w.bytes ∙ sets-eq s l 0 (omega arith) ∙ ap (λ (q : ℕ). s ++ drop q l) (zero-add (length s));
          }

-- the first k bytes of the buffer m are the whole text
pub record Shown (s m : List ℕ) (k : ℕ) : Type 0 where
  pub inside : k ≤ length m
  pub long : k ≡ length (take k m)
  pub text : take k m ≡ s

pub shown : (l m text : List ℕ) (k : ℕ) → Printed l text m k → length text ≤ length l → Shown text m k
shown l m text k p f =
    let e : length m ≡ length l = ap length p.bytes ∙ length-sets l 0 text in
    let h : k ≤ length m = omega (arith, p.long, e) in
    record {
      inside = h;
      long = sym (length-take-le k m h);
      text = ap (take k) (p.whole f) ∙ take_at text (drop (length text) l) k (sym p.long);
    }
