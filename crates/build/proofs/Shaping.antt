-- FORMAT 5: slices that hold a mesh, as they are asked of a block's header.
use mathlib.Core.Path.{◌≡◌, refl, sym, ap, ◌∙◌}
use mathlib.Core.Bool.{Bool, true, false, cond}
use mathlib.Core.List.{List, []}
use Prim.Native.Nat.{ℕ, suc}
use Rattle.block.specs.declared.header.Header.{Header}
use Rattle.mesh.specs.Mesh.{Mesh, Slices, slices_of, over_all}
use Rattle.mesh.specs.Result.{makes_normals, makes_colours, makes_textures, made_of}
use Rattle.vertices.specs.declared.places.Widths.{Widths}
use Rattle.vertices.specs.Places.{colour_words, texture_words}
use Rattle.lent.specs.declared.Counts.{Counts}
use Rattle.lent.specs.Lent.{Shaped}
use Rattle.build.specs.Built.{part, made_by, Meshed}

part_made : (b : Bool) (n : ℕ) (l : List ℕ) → part (cond b (suc n) 0) l ≡ cond b l []
unfolding part
part_made true n l = refl
part_made false n l = refl

-- of any kind but a line set, where the widths are those of what is made
pub shaped_of : {h : Header} {widths : Widths} {M : Mesh} {o m : Slices} {r : Counts} → makes_normals h ≡ true
    → widths.colour ≡ cond (makes_colours h) colour_words 0 → widths.texture ≡ cond (makes_textures h) texture_words 0 → Meshed widths M o m r → Shaped h M o m r
unfolding made_of made_by slices_of
shaped_of {h} {widths} {M} {o} n c t B =
    let S = slices_of M in
    let made : made_by widths S ≡ made_of h S = λ i. record {
      sources = S.sources;
      positions = S.positions;
      normals = cond (sym n i) S.normals [];
      colours = (ap (λ (k : ℕ). part k S.colours) c ∙ part_made (makes_colours h) 3 S.colours) i;
      textures = (ap (λ (k : ℕ). part k S.textures) t ∙ part_made (makes_textures h) 1 S.textures) i;
      indices = S.indices;
    } in
    record { vertices = B.vertices; count = B.count; slices = B.slices ∙ ap (λ (l : Slices). over_all l o) made }
