-- FORMAT 19.2: what it is to be hit, and what never is. Assumes nothing.
use mathlib.Core.Path.{◌≡◌, refl, sym, ap, ◌∙◌}
use mathlib.Core.Bool.{Bool, true, false, not, ◌&&◌, true≢false}
use mathlib.Core.List.{List}
use Prim.Native.Nat.{ℕ}
use lib.Ieee.{Float, nan, inf, fin, binary32, add, mul, div, le, lt, eq, of_bits}
use borrow.Author.Tests.{not-true}
use Rattle.lists.proofs.Tests.{never, and_left, and_right}
use Rattle.math.specs.Vector.{zero_f, one_f, vsub, vdot, vcross}
use Rattle.paths.specs.declared.intersect.Ray.{Ray}
use Rattle.paths.specs.declared.intersect.Triangle.{Triangle}
use Rattle.paths.specs.declared.intersect.Crossing.{Crossing}
use Rattle.paths.specs.Intersect.{crossing_of, is_hit, hits, Hit}
use Rattle.paths.specs.Paths.{triangle_in, blocks}

below_nan : le zero_f nan ≡ false
unfolding le lt eq of_bits
below_nan = refl

mul_nan : (x : Float) → mul binary32 x nan ≡ nan
unfolding mul
mul_nan nan = refl
mul_nan (inf s) = refl
mul_nan (fin s m e) = refl

one_by_nan : div binary32 one_f nan ≡ nan
unfolding div of_bits
one_by_nan = refl

seven : (a b c d e f g : Bool) → (a && (b && (c && (d && (e && (f && g)))))) ≡ true
    → (a ≡ true) × (b ≡ true) × (c ≡ true) × (d ≡ true) × (e ≡ true) × (f ≡ true) × (g ≡ true)
seven a b c d e f g h =
    let h1 = and_right a (b && (c && (d && (e && (f && g))))) h in
    let h2 = and_right b (c && (d && (e && (f && g)))) h1 in
    let h3 = and_right c (d && (e && (f && g))) h2 in
    let h4 = and_right d (e && (f && g)) h3 in
    let h5 = and_right e (f && g) h4 in
    (and_left a (b && (c && (d && (e && (f && g))))) h, and_left b (c && (d && (e && (f && g)))) h1, and_left c (d && (e && (f && g))) h2, and_left d (e && (f && g)) h3, and_left e (f && g) h4, and_left f g h5, and_right f g h5)

module _ (c : Crossing) where
  pub hit_means : is_hit c ≡ true → Hit c
  unfolding is_hit
  hit_means h =
      let r =
      seven (not (eq c.det zero_f)) (le zero_f c.u) (le c.u one_f) (le zero_f c.v) (le (add binary32 c.u c.v) one_f) (le zero_f c.t) (le c.t one_f) h in
      record {
        not_zero = not-true (eq c.det zero_f) r.0;
        u_from = r.1;
        u_to = r.2;
        v_from = r.3;
        sum_to = r.4;
        t_from = r.5;
        t_to = r.6;
      }

  pub means_hit : Hit c → is_hit c ≡ true
  unfolding is_hit
  means_hit m = rw (m.not_zero, m.u_from, m.u_to, m.v_from, m.sum_to, m.t_from) m.t_to

  -- ---- what is never hit

  pub zero_det : eq c.det zero_f ≡ true → is_hit c ≡ false
  zero_det e = never (is_hit c) (λ (h : is_hit c ≡ true). true≢false (sym e ∙ (hit_means h).not_zero))

  pub nan_u : c.u ≡ nan → is_hit c ≡ false
  nan_u e = never (is_hit c) (λ (h : is_hit c ≡ true). true≢false (sym (hit_means h).u_from ∙ ap (le zero_f) e ∙ below_nan))

  pub nan_v : c.v ≡ nan → is_hit c ≡ false
  nan_v e = never (is_hit c) (λ (h : is_hit c ≡ true). true≢false (sym (hit_means h).v_from ∙ ap (le zero_f) e ∙ below_nan))

  pub nan_t : c.t ≡ nan → is_hit c ≡ false
  nan_t e = never (is_hit c) (λ (h : is_hit c ≡ true). true≢false (sym (hit_means h).t_from ∙ ap (le zero_f) e ∙ below_nan))

-- a NaN determinant makes u one
pub nan_det : (ray : Ray) (tri : Triangle) → (crossing_of ray tri).det ≡ nan → hits ray tri ≡ false
unfolding hits crossing_of
nan_det ray tri e =
    nan_u (crossing_of ray tri)
    (ap (λ (x : Float). mul binary32 (vdot (vsub ray.orig tri.vert0) (vcross ray.dir tri.edge2)) (div binary32 one_f x)) e
    ∙ ap (λ (x : Float). mul binary32 (vdot (vsub ray.orig tri.vert0) (vcross ray.dir tri.edge2)) x) one_by_nan
    ∙ mul_nan (vdot (vsub ray.orig tri.vert0) (vcross ray.dir tri.edge2)))

-- ---- a triangle of a mesh

module _ (positions indices : List ℕ) (ray : Ray) (t : ℕ) where
  pub blocks_means : blocks positions indices ray t ≡ true → Hit (crossing_of ray (triangle_in positions indices t))
  unfolding blocks hits
  blocks_means h = hit_means (crossing_of ray (triangle_in positions indices t)) h

  pub means_blocks : Hit (crossing_of ray (triangle_in positions indices t)) → blocks positions indices ray t ≡ true
  unfolding blocks hits
  means_blocks m = means_hit (crossing_of ray (triangle_in positions indices t)) m
