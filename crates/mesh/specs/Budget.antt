-- FORMAT 10.2, generate_normals (budget): what the cosine rule looks at, corner by corner, and the most that the Rust looks at.
use Rattle.std.specs.Prelude.{ℕ, List, length}
use Rattle.lists.specs.Lists.{total}
use Rattle.mesh.specs.Soup.{Corner, Face, Frame}
use Rattle.mesh.specs.Normals.{incident}

-- FORMAT 10.2, CREASE_BUDGET: 64 × 1024 × 1024
unfoldable pub crease_budget : ℕ
crease_budget = 67108864

-- FORMAT 10.2, generate_normals (range.len()): the faces at p, a face as often as it lists the point
unfoldable pub asked : Frame → List Face → ℕ → ℕ
asked F fs p = length (incident F fs p)

-- FORMAT 10.2: what the corners of one face ask for
unfoldable pub asked_by : Frame → List Face → Face → ℕ
asked_by F fs f = total (λ (c : Corner). asked F fs c.gather) f

-- FORMAT 10.2: what all corners ask for
unfoldable pub asked_in_all : Frame → List Face → ℕ
asked_in_all F fs = total (asked_by F fs) fs
