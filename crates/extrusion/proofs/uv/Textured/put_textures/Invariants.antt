use Prim.Native.Nat.{ℕ}
use Rattle.extrusion.specs.Corners.{extrusion_texture}
use Rattle.mesh.specs.Extrusion.{extrusion_of}
use Rattle.lists.proofs.Pieces.{Pieces}
use Rattle.mesh.specs.Words.{words2}
use Rattle.extrusion.proofs.uv.Textured.put_textures.Given as goal

abbrev pub invariant-loop-c : goal.invariant-loop-c
invariant-loop-c l = Pieces (λ (j : ℕ). words2 (extrusion_texture (extrusion_of l.self.source.block.now) l.initial.work l.t j)) l.t.count l.initial.work l.textures l.c l.work
