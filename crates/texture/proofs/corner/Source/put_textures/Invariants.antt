use Rattle.texture.specs.Textured.{set_texture}
use Rattle.lists.proofs.Pieces.{Pieces}
use Rattle.mesh.specs.Words.{words2}
use Prim.Native.Nat.{ℕ}
use Rattle.texture.proofs.corner.Source.put_textures.Given as goal

abbrev pub invariant-loop-c : goal.invariant-loop-c
invariant-loop-c l = Pieces (λ (j : ℕ). words2 (set_texture l.self.block.now l.self.coord.now l.self.header l.self.settings l.fit l.initial.work l.t j)) l.t.count l.initial.work l.textures l.c l.work
