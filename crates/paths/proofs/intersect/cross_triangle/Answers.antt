use mathlib.Core.Path.{◌≡◌}
use lib.Ieee.{Float, binary32, mul, div}
use Rattle.math.specs.declared.vector.V3.{V3}
use Rattle.math.specs.Vector.{one_f, vsub, vdot, vcross}
use Rattle.paths.specs.declared.intersect.Ray.{Ray}
use Rattle.paths.specs.declared.intersect.Triangle.{Triangle}
use Rattle.paths.specs.declared.intersect.Crossing.{Crossing}
use Rattle.paths.specs.Intersect.{crossing_of}
use Rattle.paths.proofs.intersect.cross_triangle.Goals as goal

-- the values, one after the other
is : (ray : Ray) (tri : Triangle) {pvec tvec qvec : V3} {det a b d : Float} → pvec ≡ vcross ray.dir tri.edge2 → det ≡ vdot tri.edge1 pvec
    → tvec ≡ vsub ray.orig tri.vert0 → a ≡ vdot tvec pvec → qvec ≡ vcross tvec tri.edge1 → b ≡ vdot ray.dir qvec → d ≡ vdot tri.edge2 qvec
    → ◌≡◌ {A = Crossing} (record { det = det; u = mul binary32 a (div binary32 one_f det); v = mul binary32 b (div binary32 one_f det); t = mul binary32 d (div binary32 one_f det) }) (crossing_of ray tri)
unfolding crossing_of
is ray tri ep ed et ea eq eb ec = rw (ea, eb, ec, ed, eq, et, ep)

pub returns : goal.returns
returns c =
    is _ _ c.cross-pvec.ensures c.dot-det.ensures c.sub-tvec.ensures c.dot.ensures c.cross-qvec.ensures c.dot-2.ensures c.dot-3.ensures
