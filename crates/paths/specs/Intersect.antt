-- FORMAT 19.2: Möller and Trumbore's test ("Fast, Minimum Storage Ray/Triangle Intersection", 1997,
-- intersect_triangle) in f32, in the order of their code, without culling and without an epsilon.
use Rattle.std.specs.Prelude.{◌≡◌, Bool, true, false, not, ◌&&◌}
use Rattle.std.specs.Float.{binary32}
use Rattle.std.specs.Float.Ieee.{add, mul, div, le, eq}
use Rattle.math.specs.Vector.{zero_f, one_f, vsub, vdot, vcross}
use Rattle.paths.specs.declared.intersect.Ray.{Ray}
use Rattle.paths.specs.declared.intersect.Triangle.{Triangle}
use Rattle.paths.specs.declared.intersect.Crossing.{Crossing}

-- FORMAT 19.2, intersect_triangle: the determinant, and u, v and t by its one reciprocal
unfoldable pub crossing_of : Ray → Triangle → Crossing
crossing_of ray tri =
    let pvec = vcross ray.dir tri.edge2 in
    let det = vdot tri.edge1 pvec in
    let inv_det = div binary32 one_f det in
    let tvec = vsub ray.orig tri.vert0 in
    let qvec = vcross tvec tri.edge1 in
    record {
      det = det;
      u = mul binary32 (vdot tvec pvec) inv_det;
      v = mul binary32 (vdot ray.dir qvec) inv_det;
      t = mul binary32 (vdot tri.edge2 qvec) inv_det;
    }

-- FORMAT 19.2: edges and both ends count. A comparison with a NaN is false, so no NaN passes.
unfoldable pub is_hit : Crossing → Bool
is_hit c =
    not (eq c.det zero_f)
    && (le zero_f c.u
    && (le c.u one_f
    && (le zero_f c.v
    && (le (add binary32 c.u c.v) one_f
    && (le zero_f c.t
    && le c.t one_f)))))

-- FORMAT 19.2: whether the triangle is hit
unfoldable pub hits : Ray → Triangle → Bool
hits ray tri = is_hit (crossing_of ray tri)

-- FORMAT 19.2, what it is to be hit: the determinant is not 0, and all places are in range
pub record Hit (c : Crossing) : Type 0 where
  pub not_zero : eq c.det zero_f ≡ false
  pub u_from : le zero_f c.u ≡ true
  pub u_to : le c.u one_f ≡ true
  pub v_from : le zero_f c.v ≡ true
  pub sum_to : le (add binary32 c.u c.v) one_f ≡ true
  pub t_from : le zero_f c.t ≡ true
  pub t_to : le c.t one_f ≡ true
