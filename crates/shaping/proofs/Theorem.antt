-- FORMAT 4, 5, 7, 8, 11: tables that hold a shape are as `build` asks, and what it leaves is the shape's mesh.
use mathlib.Core.Path.{◌≡◌, refl, sym, ap, ◌∙◌, subst}
use mathlib.Core.Bool.{Bool, true, false, cond}
use mathlib.Core.Logic.{inl, inr}
use mathlib.Core.List.{List}
use Prim.Native.Nat.{ℕ, suc, ◌+◌, ◌≤◌, ◌<◌}
use native.Mathlib.Omega.{arith}
use lib.ListN.{length, replicate}
use lib.Ieee.{Float, binary32, of_bits}
use Rattle.bits.specs.declared.Words2.{Words2}
use Rattle.block.specs.declared.crease.CreaseRule.{CreaseRule}
use Rattle.block.specs.declared.header.Header.{Header}
use Rattle.block.specs.declared.kind.Kind.{Kind}
use Rattle.block.specs.declared.settings.Settings.{Settings}
use Rattle.lists.proofs.Keep.{kept_then}
use Rattle.mesh.specs.Soup.{Corner}
use Rattle.mesh.specs.Mesh.{Mesh, mesh, Slices}
use Rattle.mesh.specs.Sizes.{Sizes, sizes_of}
use Rattle.mesh.specs.Result.{makes_colours, makes_textures}
use Rattle.tables.specs.declared.layout.Plan.{Plan}
use Rattle.tables.specs.Soups.{start_in}
use Rattle.tables.specs.Listed.{Use, Listing, faces_with, uses_at}
use Rattle.tables.proofs.Stays.{start_le, point_kept, place_kept, start_kept}
use Rattle.tables.proofs.Listings.{listed_sound, listed_kept}
use Rattle.vertices.specs.Places.{colour_words, texture_words}
use Rattle.corners.specs.Laid.{tables_of, Laid}
use Rattle.corners.specs.Corner.{Lent, texture_at}
use Rattle.soups.specs.Keyed.{Reads, Textured, Textures}
use Rattle.soups.proofs.Handed.{handed_holds, handed_keys}
use Rattle.lent.specs.declared.Counts.{Counts}
use Rattle.lent.specs.Lent.{Asked, Shaped, Cleared}
use Rattle.lent.proofs.Accepts.{enough_by}
use Rattle.build.specs.declared.shared.Shared.{Shared}
use Rattle.build.specs.Built.{Wide, Told, Ready, Meshed, Built}
use Rattle.build.proofs.Shaping.{shaped_of}
use Rattle.lists.proofs.Numbers.{wide_by, made_few}
use Rattle.shaping.specs.Shared.{frame_by}
use Rattle.shaping.specs.Tabled.{Counted, Tabled, TexturesAt}
use Rattle.shaping.specs.Shape.{Shape}
use Rattle.shaping.proofs.Room.{ample}

-- an attribute of k words where it is made
wide_made : {v k : ℕ} (b : Bool) → v ≡ cond b k 0 → Wide k v
wide_made {v} {k} b e = subst (Wide k) (sym e) (wide_by b k)

-- the plan t; the words w lent, then w₁ with the tables and w₂ with the textures; the floats d lent, then e
module _ {k : Kind} {bs coord : List ℕ} {h : Header} {s : Settings} {o : Slices} {w w₁ w₂ : List ℕ} {d e : List Float} {points : List ℕ} {ls : List Listing} {sh : Shared} {rule : CreaseRule}
    {f : ℕ → Use → Words2} {corner : ℕ → Use → Corner} {z : Sizes} {n ring : ℕ} {t : Plan} (A : Asked k bs h s o (length w) (length d)) (q : sizes_of bs h ≡ z) (N : Counted z n ring t)
    (T : Tabled points ls sh rule t w w₁ d e) (X : TexturesAt sh f t w₁ w₂) (S : Shape bs coord h sh ring ls f corner) where
  read : Lent
  read = record { block = bs; coord = coord; floats = e }

  len : length w₂ ≡ length w
  len = X.kept.len ∙ T.len

  long : (j : ℕ) → j < t.faces → 3 ≤ length (uses_at ls j)
  long j b = S.long j (omega (arith, T.faces.faces))

  -- FORMAT 7.3: each corner has the texture of its use
  textured : 0 < sh.widths.texture → Textured w₂ t ls corner
  textured made = record {
    at = λ j i h b.
        let E = T.faces in
        let R = E.room in
        let K = T.prepared.kept in
        let v = T.listed in
        let g = E.starts j h in
        let m = start_le (listed_sound E) (suc j) h in
        let c : ℕ = start_in v t j + i in
        let below : c < t.count = omega arith in
        let from : start_in w₂ t j ≡ start_in v t j = start_kept (kept_then K X.kept (omega arith)) t j (omega arith) in
        let point = point_kept K t c (omega arith) ∙ E.points j i h b in
        let place = place_kept K t c (omega arith) ∙ E.places j i h b in
        let owner = T.prepared.numbers.at j c h (omega arith) (omega arith) ∙ E.numbers j h in
        ap (λ (k : ℕ). texture_at w₂ (tables_of t) (k + i)) from ∙ X.at made c below ∙ (λ x. f (owner x) (record { point = point x; place = place x }))
        ∙ S.texture j i (omega (arith, E.faces)) b;
  }

  textures : Textures sh.widths w₂ t ls corner
  textures = go (makes_textures h) S.textures
    where
      go : (b : Bool) → sh.widths.texture ≡ cond b texture_words 0 → Textures sh.widths w₂ t ls corner
      go true u = inl (u, textured (omega (arith, u)))
      go false u = inr (u, S.bare u)

  reads : Reads read sh.attributes sh.widths t.ring corner
  unfolding read
  reads = subst (λ (r : ℕ). Reads read sh.attributes sh.widths r corner) (sym (ample A q N).rings) (S.reads e)

  told : Told read sh t w₂ (frame_by points sh rule) (faces_with corner ls)
  unfolding read frame_by
  told =
      let F = frame_by points sh rule in
      let full : (j : ℕ) → j < t.faces → 0 < length (uses_at ls j) = λ j b. omega (arith, long j b) in
      record {
        holds = handed_holds F T.faces T.prepared X.kept reads textures full T.points refl;
        ccw = refl;
        convex = refl;
        keys = handed_keys F T.faces T.prepared X.kept reads textures full T.points refl;
      }

  pub ready : Ready (record { block = bs; coord = coord; floats = e }) sh t w₂ o
  unfolding read
  ready =
      let G = ample A q N in
      let M = enough_by A q in
      let l = len in
      let c = G.count in
      record {
        soup = record { frame = frame_by points sh rule; faces = faces_with corner ls; told = told };
        laid = subst (Laid (tables_of t)) (sym l) G.laid;
        low = G.low;
        scratch = omega (arith, G.scratch, l);
        long = λ g b.
            let E = listed_kept (kept_then T.prepared.kept X.kept (omega arith)) (omega arith) T.faces in
            omega (arith, E.starts g b, long g b);
        normal = (S.reads e).normal;
        colour = wide_made (makes_colours h) S.colours;
        texture = wide_made (makes_textures h) S.textures;
        sources = omega (arith, c, M.sources);
        positions = omega (arith, c, M.positions);
        normals = omega (arith, c, M.normals);
        colours = made_few colour_words t.count (length o.colours) (makes_colours h) S.colours (omega (arith, c, M.colours));
        textures = made_few texture_words t.count (length o.textures) (makes_textures h) S.textures (omega (arith, c, M.textures));
        indices = let i = N.indices in omega (arith, c, G.faces, i, M.indices);
        floats = omega (arith, G.floats, T.size);
      }

  -- FORMAT 5: the slices then hold the shape's mesh
  pub shaped : {M : Mesh} {m : Slices} {w₃ : List ℕ} {e₃ : List Float} {r : Counts} → M ≡ mesh (frame_by points sh rule) (faces_with corner ls)
      → Built (record { block = bs; coord = coord; floats = e }) sh t w₂ o m w₃ e₃ r → Shaped h M o m r × Cleared w w₃ d e₃
  unfolding read
  shaped {M} {m} {w₃} {e₃} {r} p B = (
    shaped_of S.normals S.colours S.textures (subst (λ (M : Mesh). Meshed sh.widths M o m r) (sym p) (B.made _ _ told)),
    record { words = B.work ∙ ap (λ (n : ℕ). replicate n 0) len; floats = B.floats ∙ ap (λ (n : ℕ). replicate n (of_bits binary32 0)) T.size },
  )
