-- The sums of the numbers, written above all other tables: what these say stays, and so do the sums.
use mathlib.Core.Path.{◌≡◌, refl, sym, ap, ◌∙◌}
use mathlib.Core.Logic.{⊎_elim}
use mathlib.Core.Bool.{Bool, true, false, cond, true≢false}
use mathlib.Core.List.{List, [], ◌∷◌, map}
use Prim.Native.Nat.{ℕ, suc, ◌+◌, ◌*◌, ◌≤◌, ◌<◌}
use native.Mathlib.Omega.{arith}
use lib.Dec.{eqb}
use lib.ListN.{length}
use lib.Ieee.{Float}
use Rattle.math.specs.declared.vector.V3.{V3}
use Rattle.std.specs.Prelude.{Option}
use Rattle.math.specs.Vector.{v3, zero_f, unit_of}
use Rattle.block.specs.declared.crease.CreaseRule.{CreaseRule}
use Rattle.block.specs.declared.crease.CreaseRule.TheVariants.{Own, Every, Bound}
use Rattle.mesh.specs.Normals.{Hit, sum_all}
use Rattle.tables.specs.declared.layout.Plan.{Plan}
use Rattle.lists.specs.Parts.{Kept}
use Rattle.tables.specs.Soups.{gather_in, owner_in}
use Rattle.lists.proofs.Keep.{kept_then}
use Rattle.lists.proofs.Tabs.{tab_same}
use Rattle.tables.proofs.Stays.{start_le, gather_kept, owner_kept, start_kept, sound_kept}
use Rattle.lists.proofs.Numbers.{last_or}
use Rattle.lists.specs.Counts.{uses, uses_from}
use Rattle.normals.specs.Group.{gathers_in}
use Rattle.normals.specs.Rows.{unit_at, normal_in, hit_in, hits_from, hits_at, Ready, every_at, sum_in, is_every, is_bound, SummedTo, Mirrored, Summed, Made}
use Rattle.normals.proofs.Counting.{grouped_by, grouped_kept}
use Rattle.normals.proofs.Walks.{length_gathers}
use Rattle.normals.proofs.Making.{unit_kept, normal_kept, unit_in_kept}

-- of the uses only corners from i on are asked
map_uses : (f g : ℕ → Hit) (p i : ℕ) (cs : List ℕ) → ((c : ℕ) → i ≤ c → c < i + length cs → f c ≡ g c) → map f (uses p i cs) ≡ map g (uses p i cs)
unfolding uses
map_uses f g p i [] h = refl
map_uses f g p i (c ∷ cs) h = go (eqb c p) (h i (omega arith) (omega arith)) (map_uses f g p (suc i) cs (λ d a b. h d (omega arith) (omega arith)))
  where
    go : (b : Bool) → f i ≡ g i → map f (uses p (suc i) cs) ≡ map g (uses p (suc i) cs)
        → map f (cond b (i ∷ uses p (suc i) cs) (uses p (suc i) cs)) ≡ map g (cond b (i ∷ uses p (suc i) cs) (uses p (suc i) cs))
    go true e r = λ z. e z ∷ r z
    go false e r = r

-- ---- what is below the sums stays

module _ {v w : List ℕ} {t : Plan} (K : Kept t.sums v w) (R : Ready v t) where
  gathers_same : gathers_in w t ≡ gathers_in v t
  unfolding gathers_in
  gathers_same = let r = R.room in tab_same (gather_in w t) (gather_in v t) t.count (λ c h. gather_kept K t c (omega arith))

  hit_same : (c : ℕ) → c < t.count → hit_in w t c ≡ hit_in v t c
  unfolding hit_in
  hit_same c h =
      let r = R.room in
      let o = R.owned c h in
      let hit : ℕ → V3 → Hit = λ (g : ℕ) (n : V3). record { face = g; normal = n } in
      ap (λ (g : ℕ). hit g (normal_in w t g)) (owner_kept K t c (omega arith)) ∙ ap (hit (owner_in v t c)) (normal_kept K t (owner_in v t c) (omega arith))

  hits_same : (p : ℕ) → hits_at w t p ≡ hits_at v t p
  unfolding hits_from uses_from
  hits_same p =
      let l = length_gathers R in
      ap (λ (G : List ℕ). map (hit_in w t) (uses p 0 G)) gathers_same
      ∙ map_uses (hit_in w t) (hit_in v t) p 0 (gathers_in v t) (λ c a b. hit_same c (omega arith))

  pub ready_kept : Ready w t
  ready_kept =
      let r = R.room in
      let l = length_gathers R in
      record {
        room = rw K.len r;
        gathers = λ c k. rw (gather_kept K t c (omega arith)) (R.gathers c k);
        grouped = rw gathers_same (grouped_by (λ c k. sym (owner_kept K t c (omega arith))) (grouped_kept K (omega arith) (omega arith) (omega arith) R.grouped));
        owned = λ c k. rw (owner_kept K t c (omega arith)) (R.owned c k);
        units = λ g k. unit_in_kept K t g (omega arith) ∙ R.units g k ∙ ap unit_of (sym (normal_kept K t g (omega arith)));
      }

  -- one sum more
  pub sums_next : {w' : List ℕ} (p : ℕ) (s : V3) (k : (Option V3)) → SummedTo v w t p → s ≡ sum_all (v3 zero_f zero_f zero_f) (hits_at w t p) → k ≡ unit_of s
      → Kept (t.sums + 4 * p) w w' → unit_at w' (t.sums + 4 * p) ≡ k → Kept t.sums v w' × SummedTo v w' t (p + 1)
  unfolding sum_in
  sums_next {w'} p s k S es ek L f = (
    kept_then K L (omega arith),
    record {
      at = λ q l. ⊎_elim
          (λ (e : q ≡ p). rw e (f ∙ ek ∙ ap unit_of (es ∙ ap (sum_all (v3 zero_f zero_f zero_f)) (hits_same p))))
          (λ (e : q < p). unit_kept L (t.sums + 4 * q) (omega arith) ∙ S.at q e)
          (last_or q p l);
    },
  )

  pub sums_all : (n : ℕ) (rule : CreaseRule) (d : List Float) → rule ≡ Every → t.spots ≤ n → SummedTo v w t n → Summed w t rule d
  unfolding is_bound
  sums_all n rule d e h S = record {
    every = λ f. record { at = λ p b. S.at p (omega arith) ∙ ap (λ (hs : List Hit). unit_of (sum_all (v3 zero_f zero_f zero_f) hs)) (sym (hits_same p)) };
    bound = λ f. absurd (true≢false (sym f ∙ ap is_bound e));
  }

-- what the other rules ask for
pub sums_own : {w : List ℕ} {t : Plan} {d : List Float} (rule : CreaseRule) → rule ≡ Own → Summed w t rule d
unfolding is_every is_bound
sums_own rule e = record { every = λ f. absurd (true≢false (sym f ∙ ap is_every e)); bound = λ f. absurd (true≢false (sym f ∙ ap is_bound e)) }

pub sums_bound : {w : List ℕ} {t : Plan} {d : List Float} (rule : CreaseRule) (b : Float) → rule ≡ Bound b → Mirrored d w t t.faces → Summed w t rule d
unfolding is_every
sums_bound rule b e M = record { every = λ f. absurd (true≢false (sym f ∙ ap is_every e)); bound = λ f. M }

-- a sum read, and the rows
pub sums_read : {w : List ℕ} {t : Plan} {d : List Float} (rule : CreaseRule) (p : ℕ) (k : (Option V3)) → Summed w t rule d → rule ≡ Every → p < t.spots → k ≡ sum_in w t p → k ≡ every_at w t p
unfolding is_every
sums_read rule p k S e h q = q ∙ (S.every (ap is_every e)).at p h

pub rows_read : {w : List ℕ} {t : Plan} {d : List Float} (rule : CreaseRule) (b : Float) → Summed w t rule d → rule ≡ Bound b → Mirrored d w t t.faces
unfolding is_bound
rows_read rule b S e = S.bound (ap is_bound e)

-- owners, rows and faces by number are still made
pub made_kept : {u v w : List ℕ} {t : Plan} {ccw : Bool} → Made u v t ccw → Kept t.sums v w → Made u w t ccw
made_kept {u} {v} {w} {t} {ccw} M K =
    let S = M.sound in
    let R = S.room in
    record {
      kept = kept_then M.kept K (omega arith);
      sound = sound_kept K t (omega arith) S;
      owned = record {
        at = λ g c k lo hi.
            let e = start_kept K t g (omega arith) in
            let f = start_kept K t (suc g) (omega arith) in
            let m = start_le S (suc g) k in
            owner_kept K t c (omega arith) ∙ M.owned.at g c k (omega arith) (omega arith);
      };
      ready = ready_kept K M.ready;
      normals = λ g k. normal_kept K t g (omega arith) ∙ M.normals g k;
    }
