-- FORMAT 17.4: every index of a part names a vertex: of a cap, and of a part that follows another.
use mathlib.Core.Bool.{Bool, true, false, cond}
use mathlib.Core.List.{List, [], ◌∷◌, ◌++◌}
use Prim.Native.Nat.{ℕ, ◌+◌, ◌%◌, ◌<◌}
use native.Mathlib.Nat.{mod-lt}
use native.Mathlib.Omega.{arith}
use lib.ListN.{length, length-append}
use lib.Ieee.{Float}
use Rattle.lists.specs.Loops.{tab, All}
use Rattle.lists.proofs.Lists.{All_by, All_flat, All_append, All_map}
use Rattle.parts.specs.declared.cap.Cap.{Cap}
use Rattle.parts.specs.Part.{Part, no_part, followed}
use Rattle.parts.specs.Cap.{cap_verts, cap_tri, cap_indices, cap_part, cap_at}
use Rattle.parts.proofs.Capping.{cap_verts_length}

-- each index is one of m vertices or of those of p
abbrev pub Names : ℕ → Part → Type 0
Names m p = All (λ (i : ℕ). i < m + length p.verts) p.indices

pub names_where : (m : ℕ) (there : Bool) (p : Part) → Names m p → Names m (cond there p no_part)
names_where m true p h = h
names_where m false p h = tt

pub names_followed : (p : Part) (f : ℕ → ℕ → Part) → Names 0 p → Names (length p.verts) (f (length p.verts) p.pairs) → Names 0 (followed p f)
unfolding followed
names_followed p f P Q =
    let q : Part = f (length p.verts) p.pairs in
    let e = length-append p.verts q.verts in
    All_append (λ (i : ℕ). i < 0 + length (p.verts ++ q.verts)) p.indices q.indices
    (All_map {P = λ (i : ℕ). i < 0 + length p.verts} {Q = λ (i : ℕ). i < 0 + length (p.verts ++ q.verts)} (λ i h. omega (arith, e, h)) p.indices P)
    (All_map {P = λ (i : ℕ). i < length p.verts + length q.verts} {Q = λ (i : ℕ). i < 0 + length (p.verts ++ q.verts)} (λ i h. omega (arith, e, h)) q.indices Q)

-- ---- a cap

one_way : (b : Bool) (m x y z : ℕ) → x < m → y < m → z < m → All (λ (i : ℕ). i < m) (cond b (x ∷ y ∷ z ∷ []) (x ∷ z ∷ y ∷ []))
one_way true m x y z hx hy hz = (hx, (hy, (hz, tt)))
one_way false m x y z hx hy hz = (hx, (hz, (hy, tt)))

module _ (ps : List Float) (k : Cap) where
  abbrev below : ℕ → Type 0
  below i = i < k.first + length (cap_verts ps k)

  tri_names : (i : ℕ) → i < k.slices → All below (cap_tri k i)
  unfolding cap_tri
  tri_names i h =
      let e = cap_verts_length ps k in
      let c : (i + 1) % k.slices < k.slices = mod-lt (i + 1) (omega (arith, h)) in
      one_way k.top (k.first + length (cap_verts ps k)) k.first (k.first + 1 + i) (k.first + 1 + (i + 1) % k.slices) (omega (arith, e)) (omega (arith, e, h)) (omega (arith, e, c))

  cap_names : Names k.first (cap_part ps k)
  unfolding cap_part cap_indices
  cap_names = All_flat below (tab (cap_tri k) k.slices 0) (All_by (λ (l : List ℕ). All below l) (cap_tri k) k.slices tri_names)

  pub cap_at_names : (there : Bool) → Names k.first (cap_at ps there k.y k.r k.slices k.top k.first k.pair)
  unfolding cap_at
  cap_at_names there = names_where k.first there (cap_part ps k) cap_names
