-- Hits counted, and answers that are all there: what a triangle does not change. Assumes nothing.
use mathlib.Core.Path.{◌≡◌, refl, sym, ap, ◌∙◌}
use mathlib.Core.Bool.{Bool, true, false, ◌&&◌, ◌||◌, cond}
use mathlib.Core.List.{List, []}
use Prim.Native.Nat.{ℕ, ◌+◌, ◌-◌, ◌≤◌, ◌<◌}
use native.Mathlib.Nat.{sub-zero}
use native.Mathlib.Omega.{arith}
use lib.Dec.{eqb, ltb}
use lib.Ieee.{Float}
use lib.ListN.{length, get_or}
use lib.Seq.{take_all}
use Rattle.std.specs.Int.{from_bool}
use Rattle.std.specs.List.{list_any}
use borrow.Author.Tests.{eq-eqb, ltb-false}
use Rattle.lists.specs.Updates.{updated}
use Rattle.lists.specs.Loops.{run, first}
use Rattle.lists.proofs.Loops.{run_go, run_end, run_kept, none_counted}
use Rattle.lists.proofs.Searches.{first_has, found_first}
use Rattle.lists.proofs.Tests.{never, and_no, or_none}
use Rattle.lists.proofs.Numbers.{bool_most}
use Rattle.paths.specs.declared.intersect.Triangle.{Triangle}
use Rattle.paths.specs.Intersect.{hits}
use Rattle.paths.specs.Paths.{triangle_in}
use Rattle.paths.specs.Pass.{ray_at, next_answer, step_at, turn_of, hit_count, any_clear}
use Rattle.lists.proofs.Updates.{updated_kept}
use Rattle.lists.proofs.Loops.{Running}

-- ---- a count

-- of m rays j are looked at
pub record Counting (rays : List Float) (tri : Triangle) (m j count : ℕ) : Type 0 where
  pub so_far : j ≤ m
  pub small : count ≤ j
  pub rest : run (λ (i s : ℕ). s + from_bool (hits (ray_at rays i) tri)) (m - j) j count ≡ hit_count rays tri m

module _ {rays : List Float} {tri : Triangle} {m : ℕ} where
  pub counting_none : Counting rays tri m 0 0
  unfolding hit_count
  counting_none = record {
    so_far = omega arith;
    small = omega arith;
    rest = ap (λ (k : ℕ). run (λ (i s : ℕ). s + from_bool (hits (ray_at rays i) tri)) k 0 0) (sub-zero m);
  }

  pub counting_more : {j count more : ℕ} → Counting rays tri m j count → j < m → more ≡ from_bool (hits (ray_at rays j) tri) → Counting rays tri m (j + 1) (count + more)
  counting_more {j} {count} {more} C b e = record {
    so_far = omega arith;
    small = omega (arith, bool_most (hits (ray_at rays j) tri), C.small, e);
    rest = ap (λ (x : ℕ). run (λ (i s : ℕ). s + from_bool (hits (ray_at rays i) tri)) (m - (j + 1)) (j + 1) (count + x)) e
        ∙ sym (run_go (λ (i s : ℕ). s + from_bool (hits (ray_at rays i) tri)) m j count b) ∙ C.rest;
  }

  pub counting_all : {j count : ℕ} → Counting rays tri m j count → m ≤ j → count ≡ hit_count rays tri m
  counting_all {j} {count} C b = sym (run_end (λ (i s : ℕ). s + from_bool (hits (ray_at rays i) tri)) m j count b) ∙ C.rest

-- no ray hits: no answer changes
pub none_hit : (rays : List Float) (tri : Triangle) (number m : ℕ) (l : List ℕ) → hit_count rays tri m ≡ 0 → l ≡ updated (step_at rays tri number) m l
unfolding hit_count step_at next_answer
none_hit rays tri number m l e = sym (updated_kept 0 (step_at rays tri number) m l (λ (j : ℕ) (b : j < m). same j b))
  where
    missed : (b : Bool) → from_bool b ≡ 0 → b ≡ false
    missed true q = absurd (omega (arith, q))
    missed false q = refl

    same : (j : ℕ) → j < m → step_at rays tri number j (get_or l j 0) ≡ get_or l j 0
    same j b =
        let q = (none_counted (λ (i : ℕ). from_bool (hits (ray_at rays i) tri)) m 0 0 e).1 j (omega arith) (omega arith) in
        ap (λ (x : Bool). cond (x && eqb (get_or l j 0) 0) number (get_or l j 0)) (missed (hits (ray_at rays j) tri) q)

-- ---- no path is left clear

pub any_clear_is : (l : List ℕ) → list_any (λ (a : ℕ). eqb a 0) l ≡ any_clear l (length l)
unfolding any_clear
any_clear_is l =
    let m = length l in
    let z : 0 + m ≡ m = omega arith in
    ap (list_any (λ (a : ℕ). eqb a 0)) (sym (take_all m l (omega arith)))
    ∙ found_first 0 (λ (a : ℕ). eqb a 0) (λ (j : ℕ). eqb (get_or l j 0) 0) l m 0 (omega arith) (λ t w. let y : 0 + t ≡ t = omega arith in rw y refl) ∙ ap (ltb (first (λ (j : ℕ). eqb (get_or l j 0) 0) m 0)) z

all_there : (l : List ℕ) (m : ℕ) → any_clear l m ≡ false → (j : ℕ) → j < m → eqb (get_or l j 0) 0 ≡ false
unfolding any_clear
all_there l m e j b = never (eqb (get_or l j 0) 0) (λ h.
    let f : first (λ (i : ℕ). eqb (get_or l i 0) 0) m 0 < 0 + m = first_has (λ (i : ℕ). eqb (get_or l i 0) 0) m 0 j (omega arith) (omega arith) h in
    let g : m ≤ first (λ (i : ℕ). eqb (get_or l i 0) 0) m 0 = ltb-false (first (λ (i : ℕ). eqb (get_or l i 0) 0) m 0) m e in
    omega arith)

-- then no triangle changes an answer
pub none_left : (positions indices : List ℕ) (rays : List Float) (m k t : ℕ) (l : List ℕ) → any_clear l m ≡ false → run (turn_of positions indices rays m) k t l ≡ l
unfolding turn_of step_at next_answer
none_left positions indices rays m k t l e = run_kept (turn_of positions indices rays m) l turn k t
  where
    turn : (s : ℕ) → turn_of positions indices rays m s l ≡ l
    turn s = updated_kept 0 (step_at rays (triangle_in positions indices s) (s + 1)) m l (λ (j : ℕ) (b : j < m).
        ap (λ (x : Bool). cond x (s + 1) (get_or l j 0))
        (ap (λ (x : Bool). hits (ray_at rays j) (triangle_in positions indices s) && x) (all_there l m e j b) ∙ and_no (hits (ray_at rays j) (triangle_in positions indices s))))

-- ---- a turn

module _ (rays : List Float) (tri : Triangle) (number m : ℕ) {count : ℕ} (e : count ≡ hit_count rays tri m) where
  pub turn_missed : (l : List ℕ) → count ≡ 0 → (l ≡ updated (step_at rays tri number) m l) × (true ≡ (eqb (hit_count rays tri m) 0 || any_clear l m))
  turn_missed l z = (
    none_hit rays tri number m l (sym e ∙ z),
    sym (ap (λ (b : Bool). b || any_clear l m) (eq-eqb (hit_count rays tri m) 0 (sym e ∙ z))),
  )

-- no path is left clear: the triangles that are left change nothing
pub turns_end : (positions indices : List ℕ) (rays : List Float) (m : ℕ) {n t : ℕ} {l₀ l : List ℕ} (a : Bool) {r : Bool} → Running (turn_of positions indices rays m) n l₀ t l
    → r ≡ (a || any_clear l m) → r ≡ false → l ≡ run (turn_of positions indices rays m) n 0 l₀
turns_end positions indices rays m {n} {t} {l₀} {l} a {r} R e z =
    sym (none_left positions indices rays m (n - t) t l (or_none a (any_clear l m) (sym e ∙ z)).1) ∙ R.rest
