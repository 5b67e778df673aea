-- FORMAT 17.3, 17.10: lists of pairs that agree as far as a part asks for them give the same part.
use mathlib.Core.Path.{◌≡◌, refl, sym, ap, ◌∙◌}
use mathlib.Core.Bool.{Bool, true, false, cond}
use mathlib.Core.List.{List, ◌∷◌, ◌++◌}
use Prim.Native.Nat.{ℕ, ◌+◌, ◌*◌, ◌≤◌, ◌<◌}
use native.Mathlib.Omega.{arith}
use lib.Ieee.{Float, binary32, nan, neg, mul}
use lib.ListN.{take, length, get_or}
use lib.Seq.{get_or-take}
use Rattle.math.specs.Vector.{v3}
use Rattle.lists.proofs.Tabs.{tab_same}
use Rattle.parts.specs.declared.cap.Cap.{Cap}
use Rattle.parts.specs.declared.vert.Vert.{Vert}
use Rattle.parts.specs.Ring.{sine_at, cosine_at, ring_at}
use Rattle.parts.specs.Part.{Part, no_part, followed}
use Rattle.parts.specs.Cap.{cap_normal, cap_texture, cap_centre, cap_vert, cap_verts, cap_indices, cap_part, cap_at}

-- ---- pairs

-- the first m pairs are the same
abbrev pub Agree : ℕ → List Float → List Float → Type 0
Agree m ps qs = take (2 * m) ps ≡ take (2 * m) qs

module _ (m : ℕ) (ps qs : List Float) (A : Agree m ps qs) where
  float_same : (k : ℕ) → k < 2 * m → get_or ps k nan ≡ get_or qs k nan
  float_same k h = sym (get_or-take (2 * m) ps k nan h) ∙ ap (λ (l : List Float). get_or l k nan) A ∙ get_or-take (2 * m) qs k nan h

  pub sine_same : (p : ℕ) → p < m → sine_at ps p ≡ sine_at qs p
  unfolding sine_at
  sine_same p h = float_same (2 * p) (omega (arith, h))

  pub cosine_same : (p : ℕ) → p < m → cosine_at ps p ≡ cosine_at qs p
  unfolding cosine_at
  cosine_same p h = float_same (2 * p + 1) (omega (arith, h))

  pub ring_same : (p : ℕ) → p < m → ring_at ps p ≡ ring_at qs p
  unfolding ring_at
  ring_same p h = λ t. record { x = neg (sine_same p h t); z = neg (cosine_same p h t) }

-- ---- parts

-- a part of a list of pairs reads none but the first `pairs`
abbrev pub Reads : (List Float → Part) → Type 0
Reads f = (ps qs : List Float) (m : ℕ) → (f ps).pairs ≤ m → Agree m ps qs → f ps ≡ f qs

-- one that goes by the vertices that there are and the pairs that were taken, none but these and as many more
abbrev pub ReadsOn : (List Float → ℕ → ℕ → Part) → Type 0
ReadsOn f = (first pair : ℕ) (ps qs : List Float) (m : ℕ) → pair + (f ps first pair).pairs ≤ m → Agree m ps qs → f ps first pair ≡ f qs first pair

pub reads_asked : (f : List Float → Part) → Reads f → (ps qs : List Float) → Agree (f ps).pairs ps qs → f ps ≡ f qs
reads_asked f R ps qs A = R ps qs (f ps).pairs (omega arith) A

pub reads_where : (f : List Float → Part) (there : Bool) → Reads f → Reads (λ ps. cond there (f ps) no_part)
reads_where f true R = R
reads_where f false R = λ ps qs m h A. refl

pub reads_followed : (p : List Float → Part) (f : List Float → ℕ → ℕ → Part) → Reads p → ReadsOn f → Reads (λ ps. followed (p ps) (f ps))
unfolding followed
reads_followed p f P F ps qs m h A =
    let a = P ps qs m (omega (arith, h)) A in
    let b = F (length (p ps).verts) (p ps).pairs ps qs m h A in
    (λ t. record { verts = (p ps).verts ++ (b t).verts; indices = (p ps).indices ++ (b t).indices; pairs = (p ps).pairs + (b t).pairs }) ∙ ap (λ (x : Part). followed x (f qs)) a

-- ---- a cap

module _ (k : Cap) (ps qs : List Float) (m : ℕ) (h : k.pair + k.slices ≤ m) (A : Agree m ps qs) where
  vert_same : (i : ℕ) → i < k.slices → cap_vert ps k i ≡ cap_vert qs k i
  unfolding cap_vert
  vert_same i b =
      let q = ring_same m ps qs A (k.pair + i) (omega (arith, h, b)) in
      λ t. record { position = v3 (mul binary32 (q t).x k.r) k.y (mul binary32 (q t).z k.r); normal = cap_normal k.top; st = cap_texture k.top (q t).x (q t).z }

  cap_same : cap_part ps k ≡ cap_part qs k
  unfolding cap_part cap_verts
  cap_same =
      ap (λ (l : List Vert). record { verts = cap_centre k ∷ l; indices = cap_indices k; pairs = k.slices }) (tab_same (cap_vert ps k) (cap_vert qs k) k.slices vert_same)

pub cap_reads : (there : Bool) (y r : Float) (n : ℕ) (top : Bool) → ReadsOn (λ ps. cap_at ps there y r n top)
unfolding cap_at cap_part
cap_reads true y r n top first pair ps qs m h A = cap_same (record { y = y; r = r; slices = n; top = top; first = first; pair = pair }) ps qs m h A
cap_reads false y r n top first pair ps qs m h A = refl
