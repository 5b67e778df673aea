-- A part and one that follows it; and from what was written, or refused, to what the call of a part promises.
use Rattle.block.proofs.Table.{number_some}
use mathlib.Core.Path.{◌≡◌, refl, sym, ap, ◌∙◌, subst}
use mathlib.Core.Bool.{Bool, true, false, ◌||◌, cond}
use mathlib.Core.List.{List, [], ◌∷◌}
use Prim.Native.Nat.{ℕ, zero, suc, ◌+◌, ◌*◌, ◌/◌, ◌≤◌, ◌<◌, ◌^◌}
use native.Mathlib.Nat.{zero-add, add-zero, mul-zero}
use native.Mathlib.Omega.{arith}
use borrow.Author.Tests.{ltb-false, le-ltb}
use lib.Dec.{ltb}
use lib.ListN.{length, length-append}
use lib.Ieee.{Float}
use Rattle.block.specs.declared.refusal.Refusal.{Refusal}
use Rattle.block.specs.declared.refusal.Refusal.TheVariants.{Pairs, Buffer}
use Rattle.block.specs.Refusal.{number_of, row, first_of}
use Rattle.lists.proofs.Options.{then_some_or}
use Rattle.lists.proofs.Tests.{or_none}
use Rattle.lists.specs.Lists.{flat}
use Rattle.lists.specs.Parts.{spliced}
use Rattle.lists.proofs.Splices.{splice_front, splice_more, put_size}
use Rattle.mesh.specs.Mesh.{Slices, slices_of}
use Rattle.lent.specs.declared.answer.Report.{Report}
use Rattle.std.specs.Prelude.{Option, Some, None, Err, Ok, IfSome, MatchOption, unwrap_or}
use Rattle.std.specs.Bool.{then_some}
use Rattle.lent.specs.Answer.{refused, saying}
use Rattle.parts.specs.declared.sizes.PartSizes.{PartSizes}
use Rattle.parts.specs.declared.sizes.PartLengths.{PartLengths}
use Rattle.parts.specs.declared.marks.Marks.{Marks}
use Rattle.parts.specs.Round.{marks_of}
use Rattle.parts.specs.declared.builder.Builder.{Builder}
use Rattle.parts.specs.declared.vert.GeomCtx.{GeomCtx}
use Rattle.parts.specs.Sizes.{is_short_texture, is_short_by, is_short_part, lengths_of, report_of, sum_of, no_sizes, sizes_where, Small, piece_most}
use Rattle.parts.specs.Part.{Part, no_part, followed, finite_ctx, textures_of, part_mesh}
use Rattle.parts.specs.Pushed.{position_words, normal_words, texture_words, texture_width, pushed, RoomFor}
use Rattle.parts.specs.Cap.{cap_sizes}
use Rattle.parts.specs.Building.{streams_in}
use Rattle.parts.specs.Written.{Sized, Written, Roomy}
use Rattle.parts.specs.Parted.{is_short_for, made_for, part_rows, part_number, part_result, Parted, lent_to}
use Rattle.parts.proofs.Pushing.{positions_length, normals_length, textures_length, room_less, pushed_more, next_room}
use Rattle.parts.proofs.Building.{kept_on, writes_none}

-- ---- a part where it is there

module _ (p : Part) (b : Bool) where
  abbrev optional : Part
  optional = cond b p no_part

  pub where_sized : {z : PartSizes} → Sized p z → Sized optional (sizes_where b z)
  unfolding sizes_where
  where_sized {z} Z = go b
    where
      go : (b : Bool) → Sized (cond b p no_part) (cond b z no_sizes)
      go true = Z
      go false = record { vertices = refl; indices = refl; pairs = refl }

-- what is written, as the code says it: of the value that is there, or of none
module _ {T : Type 0} (w : Bool) (x : T) {o : Option T} (e : o ≡ then_some w x) where
  pub written_there : (P : T → Part) (K : T → ℕ) {a : ℕ} {b b' : Builder} → MatchOption o (b' ≡ b) (λ y. Written (P y) (K y) a b b') → Written (cond w (P x) no_part) (K x) a b b'
  written_there P K {a} {b} {b'} W = go w (rw e at W)
    where
      go : (w : Bool) → MatchOption (then_some w x) (b' ≡ b) (λ y. Written (P y) (K y) a b b') → Written (cond w (P x) no_part) (K x) a b b'
      go true W = W
      go false q = subst (λ (d : Builder). Written no_part (K x) a b d) (sym q) (writes_none (K x) a b)

pub room_there : (p : Part) {w : Bool} {k a : ℕ} {b : Builder} → Roomy (cond w p no_part) k a b → w ≡ true → Roomy p k a b
room_there p R e = rw e at R

pub where_small : (m : ℕ) (b : Bool) (z : PartSizes) → Small m z → Small m (sizes_where b z)
unfolding sizes_where
where_small m true z S = S
where_small m false z S = record { vertices = omega arith; indices = omega arith; pairs = omega arith }

-- what stands before the caps, of a side that is there or not
pub marks_there : (w : Bool) (y : PartSizes) (n : ℕ) (top bottom : Bool) {z : PartSizes} {o : Option PartSizes} {m : Marks} → m ≡ marks_of (unwrap_or o no_sizes) n top bottom → o ≡ then_some w z → z ≡ y
    → m ≡ marks_of (sizes_where w y) n top bottom
unfolding sizes_where
marks_there w y n top bottom {z} {o} {m} em eo ez =
    em ∙ ap (λ (x : PartSizes). marks_of x n top bottom) (then_some_or no_sizes w z eo ∙ ap (sizes_where w) ez)

-- sizes of a part that is there or not
pub some_small : (m : ℕ) (o : Option PartSizes) → IfSome o (Small m) → Small m (unwrap_or o no_sizes)
some_small m (Some z) S = S
some_small m None S = record { vertices = omega arith; indices = omega arith; pairs = omega arith }

pub sum_small : (m n : ℕ) (y z : PartSizes) → Small m y → Small n z → Small (m + n) (sum_of y z)
sum_small m n y z S T = record { vertices = omega (arith, S.vertices, T.vertices); indices = omega (arith, S.indices, T.indices); pairs = omega (arith, S.pairs, T.pairs) }

-- and of one that is not there
pub sum_none : (y z : PartSizes) → sum_of y (sizes_where false z) ≡ y
unfolding sizes_where
sum_none y z = λ t. record { vertices = add-zero y.vertices t; indices = add-zero y.indices t; pairs = add-zero y.pairs t }

pub cap_small : (n : ℕ) → n ≤ 1024 → Small piece_most (cap_sizes n)
unfolding cap_sizes
cap_small n h = record { vertices = omega arith; indices = omega arith; pairs = omega arith }

-- what `sum_sizes` asks
pub sum_low : (m n : ℕ) {y z : PartSizes} → Small m y → Small n z → m < 2 ^ 32 → n < 2 ^ 32
    → (y.vertices < 2 ^ 32) × (y.indices < 2 ^ 32) × (y.pairs < 2 ^ 32) × (z.vertices < 2 ^ 32) × (z.indices < 2 ^ 32) × (z.pairs < 2 ^ 32)
sum_low m n S T a b =
    (omega (arith, S.vertices), omega (arith, S.indices), omega (arith, S.pairs), omega (arith, T.vertices), omega (arith, T.indices), omega (arith, T.pairs))

-- ---- the same part, by another name

module _ {p q : Part} (e : p ≡ q) where
  pub sized_as : {z : PartSizes} → Sized p z → Sized q z
  sized_as {z} Z = subst (λ (x : Part). Sized x z) e Z

  module _ {k a : ℕ} {b : Builder} where
    pub roomy_as : Roomy q k a b → Roomy p k a b
    roomy_as R = subst (λ (x : Part). Roomy x k a b) (sym e) R

    pub written_as : {b' : Builder} → Written p k a b b' → Written q k a b b'
    written_as {b'} W = subst (λ (x : Part). Written x k a b b') e W

-- ---- a part and the next

module _ {p : Part} (f : ℕ → ℕ → Part) {a : PartSizes} (Z : Sized p a) where
  at_sizes : f a.vertices a.pairs ≡ f (length p.verts) p.pairs
  at_sizes = λ i. f (Z.vertices i) (Z.pairs i)

  pub sized_followed : {b : PartSizes} → Sized (f a.vertices a.pairs) b → Sized (followed p f) (sum_of a b)
  unfolding followed
  sized_followed {b} B =
      let B' : Sized (f (length p.verts) p.pairs) b = subst (λ (q : Part). Sized q b) at_sizes B in
      record {
        vertices = (λ i. Z.vertices i + B'.vertices i) ∙ sym (length-append p.verts (f (length p.verts) p.pairs).verts);
        indices = (λ i. Z.indices i + B'.indices i) ∙ sym (length-append p.indices (f (length p.verts) p.pairs).indices);
        pairs = λ i. Z.pairs i + B'.pairs i;
      }

  abbrev next : Part
  next = f (length p.verts) p.pairs

  module _ {b : Builder} (R : Roomy (followed p f) 0 0 b) where
    total_verts : length (followed p f).verts ≡ length p.verts + length next.verts
    unfolding followed
    total_verts = length-append p.verts next.verts

    total_indices : length (followed p f).indices ≡ length p.indices + length next.indices
    unfolding followed
    total_indices = length-append p.indices next.indices

    pub roomy_first : Roomy p 0 0 b
    roomy_first = record { vertices = room_less b.ctx (omega (arith, total_verts)) R.vertices; places = omega (arith, total_indices, R.places) }

    module _ {b' : Builder} (W : Written p 0 0 b b') where
      same_places : length b'.indices.now ≡ length b.indices.now
      same_places = put_size b.indices.now 0 p.indices W.places refl (omega (arith, roomy_first.places))

      pub roomy_next : Roomy (f a.vertices a.pairs) a.vertices a.indices b'
      roomy_next =
          let r : RoomFor b.ctx (length p.verts + length next.verts) (streams_in b') = next_room b.ctx 0 p.verts (omega arith) (room_less b.ctx (omega (arith, total_verts)) R.vertices) W.streams in
          let q : Roomy next (length p.verts) (length p.indices) b' = record { vertices = rw W.kept.ctx r; places = omega (arith, total_indices, same_places, R.places) } in
          rw (at_sizes, Z.vertices, Z.indices) q

      pub written_followed : {b'' : Builder} → Written (f a.vertices a.pairs) a.vertices a.indices b' b'' → Written (followed p f) 0 0 b b''
      unfolding followed
      written_followed {b''} X =
          let U : Written next (length p.verts) (length p.indices) b' b'' = rw (at_sizes, Z.vertices, Z.indices) at X in
          let r : RoomFor b.ctx (0 + length p.verts + length next.verts) (streams_in b) = room_less b.ctx (omega (arith, total_verts)) R.vertices in
          record {
            kept = kept_on W.kept U.kept;
            streams = U.streams ∙ (λ i. pushed (W.kept.ctx i) (sym (zero-add (length p.verts)) i) next.verts (W.streams i)) ∙ pushed_more b.ctx 0 p.verts next.verts (streams_in b) r;
            places = U.places ∙ ap (λ (l : List ℕ). spliced l (length p.indices) next.indices) W.places
                ∙ splice_more b.indices.now 0 (length p.indices) p.indices next.indices (sym (zero-add (length p.indices))) (omega (arith, total_indices, R.places));
          }

-- ---- the refusals of a part, by the numbers of the code

-- what the code asks with
abbrev pub asks : Builder → PartSizes → ℕ → ℕ
asks b z floats = first_of (row Pairs (ltb (floats / 2) z.pairs) ∷ row Buffer (is_short_part b z) ∷ [])

-- of the part p, of sizes z and with the context c, which b holds as it is read
module _ (c : GeomCtx) (ps : List Float) (p : Part) (b : Builder) {z : PartSizes} (Z : Sized p z) (ec : b.ctx ≡ finite_ctx c) where
  abbrev lent : Slices
  lent = lent_to b.positions.now b.normals.now b.textures.now b.indices.now

  abbrev lengths : PartLengths
  lengths = lengths_of b 0

  wants : b.ctx.need_uvs ≡ c.need_uvs
  unfolding finite_ctx
  wants = ap (λ (x : GeomCtx). x.need_uvs) ec

  texture_test : (w : Bool) → c.need_uvs ≡ w → ltb (length b.textures.now) (length (texture_words (finite_ctx c) p.verts)) ≡ is_short_texture b.ctx z lengths
  unfolding is_short_texture finite_ctx textures_of flat
  texture_test true e =
      let q = textures_length (finite_ctx c) p.verts in
      rw (wants, e, Z.vertices) (ap (ltb (length b.textures.now)) (rw e at q))
  texture_test false e = rw (wants, e) (le-ltb (length b.textures.now) 0 (omega arith))

  short_is : is_short_for (made_for c p) lent ≡ is_short_part b z
  unfolding is_short_for made_for slices_of part_mesh is_short_part is_short_by flat
  short_is =
      let e : 3 * length p.verts ≡ 3 * z.vertices = ap (λ (k : ℕ). 3 * k) (sym Z.vertices) in
      let x = positions_length p.verts ∙ e in
      let y = normals_length p.verts ∙ e in
      let t = texture_test c.need_uvs refl in
      λ j. ltb (length b.positions.now) (x j) || (ltb (length b.normals.now) (y j) || (t j || ltb (length b.indices.now) (sym Z.indices j)))

  pub number_is : asks b z (length ps) ≡ part_number c ps p lent
  unfolding part_number part_rows first_of
  number_is = λ j. first_of (row Pairs (ltb (length ps / 2) (Z.pairs j)) ∷ row Buffer (sym short_is j) ∷ [])

  -- ---- refused

  pub call_refused : (why : Refusal) → number_of why ≡ asks b z (length ps) → Parted c ps p lent lent (Err why)
  call_refused why e = go (part_number c ps p lent) refl
    where
      go : (k : ℕ) → k ≡ part_number c ps p lent → Parted c ps p lent lent (Err why)
      go zero q = absurd (number_some why (e ∙ number_is ∙ sym q))
      go (suc k) q = record { answer = rw (← q) (ap refused (e ∙ number_is ∙ sym q)); slices = rw (← q) }

  -- ---- not refused

  module _ (e : 0 ≡ asks b z (length ps)) where
    none : part_number c ps p lent ≡ 0
    none = sym (e ∙ number_is)

    no_pairs : (x d : Bool) → ◌≡◌ {A = ℕ} (first_of (row Pairs x ∷ row Buffer d ∷ [])) 0 → d ≡ false
    unfolding first_of
    no_pairs true d e = absurd (let z : 10 ≡ 0 = e in omega arith)
    no_pairs false true e = absurd (let z : 8 ≡ 0 = e in omega arith)
    no_pairs false false e = refl

    not_short : is_short_part b z ≡ false
    not_short = no_pairs _ _ (sym e)

    texture_room : (w : Bool) → b.ctx.need_uvs ≡ w → is_short_texture b.ctx z lengths ≡ false → texture_width b.ctx * (0 + length p.verts) ≤ length b.textures.now
    unfolding is_short_texture
    texture_room true e h =
        let q : 2 * z.vertices ≤ length b.textures.now = ltb-false _ _ (rw e at h) in
        rw e (omega (arith, Z.vertices))
    texture_room false e h = rw e (omega arith)

    pub call_roomy : Roomy p 0 0 b
    unfolding is_short_part is_short_by
    call_roomy =
        let f = or_none (ltb (length b.positions.now) (3 * z.vertices)) _ not_short in
        let g = or_none (ltb (length b.normals.now) (3 * z.vertices)) _ f.1 in
        let d = or_none (is_short_texture b.ctx z lengths) _ g.1 in
        let x : 3 * z.vertices ≤ length b.positions.now = ltb-false _ _ f.0 in
        let y : 3 * z.vertices ≤ length b.normals.now = ltb-false _ _ g.0 in
        let w : z.indices ≤ length b.indices.now = ltb-false _ _ d.1 in
        record {
          vertices = record { positions = omega (arith, x, Z.vertices); normals = omega (arith, y, Z.vertices); textures = texture_room b.ctx.need_uvs refl d.0 };
          places = omega (arith, w, Z.indices);
        }

    pub made_parted : {b' : Builder} → Written p 0 0 b b' → Parted c ps p lent (lent_to b'.positions.now b'.normals.now b'.textures.now b'.indices.now) (Ok (report_of z))
    unfolding part_result report_of made_for slices_of part_mesh pushed flat
    made_parted {b'} W =
        let s : streams_in b' ≡ pushed (finite_ctx c) 0 p.verts (streams_in b) = W.streams ∙ ap (λ (x : GeomCtx). pushed x 0 p.verts (streams_in b)) ec in
        record {
          answer = rw none (λ j. saying (Ok (record { vertices = Z.vertices j; indices = Z.indices j; solid = true; unlit = false; has_colors = false })));
          slices = rw none (λ j. record {
            sources = [];
            positions = ((λ k. (s k).positions) ∙ splice_front b.positions.now (position_words p.verts)) j;
            normals = ((λ k. (s k).normals) ∙ splice_front b.normals.now (normal_words p.verts)) j;
            colours = [];
            textures = ((λ k. (s k).textures) ∙ ap (λ (a : ℕ). spliced b.textures.now a (texture_words (finite_ctx c) p.verts)) (mul-zero (texture_width (finite_ctx c))) ∙ splice_front b.textures.now (texture_words (finite_ctx c) p.verts)) j;
            indices = (W.places ∙ splice_front b.indices.now p.indices) j;
          });
        }

    -- the caller's slices hold what b' held at the end
    pub call_made : {b' : Builder} {x y t i : List ℕ} {r : Report} → Written p 0 0 b b' → r ≡ report_of z → x ≡ b'.positions.now → y ≡ b'.normals.now → t ≡ b'.textures.now → i ≡ b'.indices.now
        → Parted c ps p lent (lent_to x y t i) (Ok r)
    call_made W er ex ey et ei = rw (er, ex, ey, et, ei) (made_parted W)
