-- FORMAT 8.4, 10.2: the mesh of an extrusion as the Rust has it, where every corner is gathered by its point.
use Rattle.std.specs.Prelude.{List, map, ℕ}
use Rattle.mesh.specs.Soup.{Corner}
use Rattle.mesh.specs.Mesh.{Mesh, mesh}
use Rattle.mesh.specs.Extrusion.{extrusion_of, extrusion_faces, extrusion_frame}

-- FORMAT 10.2, generate_normals (incident)
abbrev pub by_point : Corner → Corner
by_point c =
    record {
      point = c.point;
      gather = c.point;
      given = c.given;
      colour = c.colour;
      texture = c.texture;
    }

-- FORMAT 8.4, extrusion: no columns are joined
unfoldable pub apart_mesh : List ℕ → Mesh
apart_mesh bs =
    let E = extrusion_of bs in
    mesh (extrusion_frame E) (map (map by_point) (extrusion_faces E))
