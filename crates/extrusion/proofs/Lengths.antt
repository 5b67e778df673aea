-- FORMAT 8.4: laws of arc parameters.
use mathlib.Core.Path.{◌≡◌, refl, ap, ◌∙◌}
use mathlib.Core.Bool.{true, false}
use mathlib.Core.List.{List, ◌++◌}
use Prim.Native.Nat.{ℕ, ◌+◌, ◌-◌, ◌≤◌}
use native.Mathlib.Numerals.{add-one}
use native.Mathlib.Omega.{arith}
use lib.ListN.{length}
use lib.IntN.{pos}
use lib.Ieee.{Float, binary32, add, sub, div, lt, of_int}
use Rattle.lists.proofs.Tabs.{length_tab}
use Rattle.math.specs.declared.vector.V3.{V3}
use Rattle.math.specs.Vector.{zero_f, vlen}
use Rattle.block.specs.declared.header.Header.{Header}
use Rattle.block.specs.declared.texture.Pair.{Pair}
use Rattle.mesh.specs.Frames.{step}
use Rattle.mesh.specs.Arcs.{at2, counted, length_to, share, arcs, step2, step3, hypot, arcs2, arcs3}
use Rattle.mesh.specs.Extrusion.{spine_count, section_count, extrusion_of}
use Rattle.lists.specs.Parts.{spliced}
use Rattle.extrusion.specs.Given.{Given}
use Rattle.extrusion.proofs.Blocks.{section_long, spine_long}
use Rattle.lists.proofs.Splices.{splice_more}
use Rattle.lists.proofs.Pieces.{Singles, singles_all}

pub step3_is : (l : List V3) (i : ℕ) (v : V3) (r : Float) → v ≡ step l i (i + 1) → r ≡ vlen v → r ≡ step3 l i
unfolding step3
step3_is l i v r ev er = er ∙ ap vlen ev

pub step2_is : (l : List Pair) (i : ℕ) (p q : Pair) (r : Float) → p ≡ at2 l (i + 1) → q ≡ at2 l i → r ≡ hypot (sub binary32 p.s q.s) (sub binary32 p.t q.t) → r ≡ step2 l i
unfolding step2
step2_is l i p q r ep eq er = rw (er, ep, eq) refl

pub length_start : (d : ℕ → Float) → zero_f ≡ length_to d 0
unfolding length_to
length_start d = refl

pub length_step : (d : ℕ → Float) (i : ℕ) (x s c : Float) → x ≡ length_to d i → s ≡ d i → c ≡ counted s → add binary32 x c ≡ length_to d (i + 1)
unfolding length_to
length_step d i x s c ex es ec = rw (ec, es, ex, add-one) refl

pub share_part : (t x : Float) (m i : ℕ) → lt zero_f t ≡ true → div binary32 x t ≡ share t m i x
unfolding share
share_part t x m i h = rw h refl

pub share_even : (t x a b : Float) (m i : ℕ) → lt zero_f t ≡ false → a ≡ of_int binary32 (pos i) → b ≡ of_int binary32 (pos m) → div binary32 a b ≡ share t m i x
unfolding share
share_even t x a b m i h ea eb = rw (h, ea, eb) refl

-- parameter i of n points
unfoldable pub param_at : (ℕ → Float) → ℕ → ℕ → Float
param_at d n i = share (length_to d (n - 1)) (n - 1) i (length_to d i)

pub param_is : (d : ℕ → Float) (n i : ℕ) (t x v : Float) → t ≡ length_to d (n - 1) → x ≡ length_to d i → v ≡ share t (n - 1) i x → v ≡ param_at d n i
unfolding param_at
param_is d n i t x v et ex ev = rw (ev, et, ex) refl

pub params_all : (d : ℕ → Float) (n i : ℕ) (l m : List Float) (k : ℕ) → Singles (param_at d n) n l k i m → n ≤ i → m ≡ spliced l k (arcs d n)
unfolding arcs param_at
params_all d n i l m k P e = singles_all P e

pub length_arcs : (d : ℕ → Float) (n : ℕ) → length (arcs d n) ≡ n
unfolding arcs
length_arcs d n = length_tab (λ i. share (length_to d (n - 1)) (n - 1) i (length_to d i)) n 0

-- ---- of a block

pub arcs_put : {bs : List ℕ} {h : Header} (G : Given bs h) (l l' l'' : List Float) (cs : List Pair) (sp : List V3) (m n k : ℕ) → cs ≡ (extrusion_of bs).section → m ≡ length cs → sp ≡ (extrusion_of bs).spine → n ≡ length sp
    → k + (section_count h + spine_count h) ≤ length l → l' ≡ spliced l k (arcs (step2 cs) m) → l'' ≡ spliced l' (k + m) (arcs (step3 sp) n)
    → l'' ≡ spliced l k (arcs2 (extrusion_of bs).section ++ arcs3 (extrusion_of bs).spine)
arcs_put {bs} {h} G l l' l'' cs sp m n k ec em es en room e f =
    let p = arcs (step2 cs) m in
    let q = arcs (step3 sp) n in
    let lp = length_arcs (step2 cs) m in
    let lq = length_arcs (step3 sp) n in
    let ep : p ≡ arcs2 (extrusion_of bs).section = ap (arcs (step2 cs)) em ∙ ap arcs2 ec in
    let eq : q ≡ arcs3 (extrusion_of bs).spine = ap (arcs (step3 sp)) en ∙ ap arcs3 es in
    let fits : k + (m + n) ≤ length l = omega (arith, em, en, ap length ec, ap length es, section_long G, spine_long G) in
    f ∙ ap (λ (r : List Float). spliced r (k + m) q) e ∙ splice_more l k (k + m) p q (omega arith) (omega arith) ∙ (λ t. spliced l k (ep t ++ eq t))
