-- FORMAT 17.10: the sizes of what is made, and what a call answers and leaves.
use Rattle.block.proofs.Table.{number_some}
use mathlib.Core.Path.{◌≡◌, refl, sym, ap, ◌∙◌}
use mathlib.Core.Bool.{Bool, true, false, ◌||◌, cond, or-false}
use mathlib.Core.List.{List, [], ◌∷◌, map}
use Prim.Native.Nat.{ℕ, zero, suc, ◌*◌, ◌≤◌, ◌<◌, ◌^◌}
use native.Mathlib.Omega.{arith}
use borrow.Author.Tests.{ltb-false, leb-true}
use lib.Dec.{ltb}
use lib.ListN.{length, take}
use Rattle.lists.specs.Lists.{flat}
use Rattle.lists.specs.Loops.{tab}
use Rattle.lists.specs.Parts.{spliced}
use Rattle.lists.proofs.Tabs.{length_tab}
use Rattle.lists.proofs.Lists.{length_words}
use Rattle.lists.proofs.Tests.{and_right}
use Rattle.block.specs.declared.refusal.Refusal.{Refusal}
use Rattle.block.specs.declared.refusal.Refusal.TheVariants.{Corners, Buffer}
use Rattle.block.specs.Edition.{edition1}
use Rattle.block.specs.Refusal.{row, first_of, number_of}
use Rattle.lists.proofs.Tests.{or_none}
use Rattle.mesh.specs.Words.{words3, words4, point_words}
use Rattle.mesh.specs.Mesh.{Slices, slices_of}
use Rattle.std.specs.Prelude.{Option, Err, Ok, MatchOption}
use Rattle.std.specs.Bool.{then_some}
use Rattle.lists.proofs.Splices.{splice_start, splice_front}
use Rattle.pointset.specs.declared.copies.Listed.{Listed}
use Rattle.lent.specs.Answer.{refused}
use Rattle.parts.specs.Parted.{is_short_for}
use Rattle.pointset.specs.Numbers.{is_short}
use Rattle.pointset.specs.PointSet.{points_in, colours_in, makes_colours, colour_at, point_set_mesh, point_set_rows, point_set_number, point_set_result, PointSetCall, lent_to}
use Rattle.pointset.proofs.Copied.{points_copied}

-- neither row
no_rows : (b d : Bool) → ◌≡◌ {A = ℕ} (first_of (row Corners b ∷ row Buffer d ∷ [])) 0 → (b ≡ false) × (d ≡ false)
unfolding first_of
no_rows true d e = absurd (let y : 7 ≡ 0 = e in omega arith)
no_rows false true e = absurd (let y : 8 ≡ 0 = e in omega arith)
no_rows false false e = (refl, refl)

-- colours as they are put: of a list that is there, or of none
pub colours_put : (n : ℕ) (b : Bool) (l : Listed) (c : List ℕ) {o : Option Listed} {c' : List ℕ} → o ≡ then_some b l → MatchOption o (c' ≡ c) (λ y. c' ≡ spliced c 0 (flat (map words4 (tab (colour_at y.alpha y.words.now) n 0))))
    → c' ≡ spliced c 0 (flat (map words4 (cond b (tab (colour_at l.alpha l.words.now) n 0) [])))
unfolding flat
colours_put n b l c {o} {c'} e p = go b (rw e at p)
  where
    go : (b : Bool) → MatchOption (then_some b l) (c' ≡ c) (λ y. c' ≡ spliced c 0 (flat (map words4 (tab (colour_at y.alpha y.words.now) n 0)))) → c' ≡ spliced c 0 (flat (map words4 (cond b (tab (colour_at l.alpha l.words.now) n 0) [])))
    go true q = q
    go false q = q ∙ splice_start c 0

-- what there is room for, where b says whether colours are made
pub record Roomy (points : List ℕ) (alpha : Bool) (listed p c s : List ℕ) (b : Bool) : Type 0 where
  pub few : points_in points < 2 ^ 32
  pub given : 3 * points_in points ≤ length points
  pub positions : 3 * points_in points ≤ length p
  pub enough : b ≡ true → points_in points ≤ colours_in alpha listed
  pub colours : b ≡ true → 4 * points_in points ≤ length c
  pub sources : points_in points ≤ length s

-- ---- sizes

module _ (points : List ℕ) (has alpha : Bool) (listed : List ℕ) where
  abbrev made : Slices
  made = slices_of (point_set_mesh points has alpha listed)

  pub positions_size : length made.positions ≡ 3 * points_in points
  unfolding slices_of point_set_mesh
  positions_size = length_words words3 3 (λ x. refl) (tab (point_words points) (points_in points) 0) ∙ ap (λ (k : ℕ). 3 * k) (length_tab (point_words points) (points_in points) 0)

  pub colours_size : (b : Bool) → makes_colours points has alpha listed ≡ b → length made.colours ≡ cond b (4 * points_in points) 0
  unfolding slices_of point_set_mesh flat
  colours_size true e =
      rw e (length_words words4 4 (λ x. refl) (tab (colour_at alpha listed) (points_in points) 0) ∙ ap (λ (k : ℕ). 4 * k) (length_tab (colour_at alpha listed) (points_in points) 0))
  colours_size false e = rw e refl

  pub sources_size : length made.sources ≡ points_in points
  unfolding slices_of point_set_mesh
  sources_size = length_tab (λ (k : ℕ). k) (points_in points) 0

  -- ---- the refusals, by the numbers of the code

  module _ (p c s : List ℕ) where
    -- what the code asks with
    abbrev pub asks : ℕ → Bool → ℕ
    asks n b = first_of (row Corners (ltb edition1.limit n) ∷ row Buffer (is_short n b p c s) ∷ [])

    short_is : is_short_for made (lent_to p c s) ≡ is_short (points_in points) (makes_colours points has alpha listed) p c s
    unfolding is_short_for is_short slices_of point_set_mesh flat
    short_is =
        ap (λ (b : Bool). ltb (length p) (length made.positions) || (ltb (length c) (length made.colours) || b)) (or-false (ltb (length s) (length made.sources)))
        ∙ (λ i. ltb (length p) (positions_size i) || (ltb (length c) (colours_size (makes_colours points has alpha listed) refl i) || ltb (length s) (sources_size i)))

    pub number_is : asks (points_in points) (makes_colours points has alpha listed) ≡ point_set_number points has alpha listed (lent_to p c s)
    unfolding point_set_number point_set_rows first_of
    number_is = rw short_is refl

    -- ---- what the code answers: b says whether colours are made

    module _ {b : Bool} (eb : b ≡ makes_colours points has alpha listed) where
      same_asks : asks (points_in points) b ≡ point_set_number points has alpha listed (lent_to p c s)
      same_asks = ap (asks (points_in points)) eb ∙ number_is

      pub refused_call : (why : Refusal) → number_of why ≡ asks (points_in points) b → PointSetCall points has alpha listed (lent_to p c s) (lent_to p c s) (Err why)
      refused_call why ew = go (point_set_number points has alpha listed (lent_to p c s)) refl
        where
          go : (k : ℕ) → k ≡ point_set_number points has alpha listed (lent_to p c s) → PointSetCall points has alpha listed (lent_to p c s) (lent_to p c s) (Err why)
          go zero q = absurd (number_some why (ew ∙ same_asks ∙ sym q))
          go (suc k) q = record { answer = rw (← q) (ap refused (ew ∙ same_asks ∙ sym q)); slices = rw (← q) }

      module _ (ew : 0 ≡ asks (points_in points) b) where
        none : point_set_number points has alpha listed (lent_to p c s) ≡ 0
        none = sym (ew ∙ same_asks)

        rows : (ltb edition1.limit (points_in points) ≡ false) × (is_short (points_in points) b p c s ≡ false)
        rows = no_rows _ _ (sym ew)

        few : points_in points ≤ edition1.limit
        few = ltb-false _ _ rows.0

        enough : b ≡ true → points_in points ≤ colours_in alpha listed
        unfolding makes_colours
        enough e = leb-true _ _ (and_right has _ (sym eb ∙ e))

        pub roomy : Roomy points alpha listed p c s b
        unfolding is_short edition1
        roomy =
            let u = or_none (ltb (length p) (3 * points_in points)) _ rows.1 in
            let v = or_none (ltb (length c) (cond b (4 * points_in points) 0)) _ u.1 in
            let d : cond b (4 * points_in points) 0 ≤ length c = ltb-false _ _ v.0 in
            record {
              few = omega (arith, few);
              given = omega arith;
              positions = ltb-false _ _ u.0;
              enough = enough;
              colours = λ e. rw e at d;
              sources = ltb-false _ _ v.1;
            }

        pub made_call : {p' c' s' : List ℕ} → p' ≡ spliced p 0 (take (3 * points_in points) points)
            → c' ≡ spliced c 0 (flat (map words4 (cond b (tab (colour_at alpha listed) (points_in points) 0) []))) → s' ≡ spliced s 0 (tab (λ k. k) (points_in points) 0)
            → PointSetCall points has alpha listed (lent_to p c s) (lent_to p' c' s') (Ok (record { vertices = points_in points; indices = 0; solid = true; unlit = true; has_colors = b }))
        unfolding point_set_result slices_of point_set_mesh flat
        made_call {p'} {c'} {s'} ep ec es =
            let q : points_in points * 3 ≤ length points = omega arith in
            record {
              answer = rw (none, eb) refl;
              slices = rw none (λ i. record {
                sources = (es ∙ splice_front s made.sources) i;
                positions = (ep ∙ ap (spliced p 0) (sym (points_copied points (points_in points) q)) ∙ splice_front p made.positions) i;
                normals = [];
                colours = (rw eb at ec ∙ splice_front c made.colours) i;
                textures = [];
                indices = [];
              });
            }
