use borrow.Author.Tests.{eq-eqb, ne_eqb}
use mathlib.Core.Path.{◌≡◌, sym, ◌∙◌}
use mathlib.Core.Bool.{Bool, true, false}
use Rattle.vertices.proofs.Keys.{same_key_lem}
use Rattle.vertices.proofs.places.VertexSlices.same_vertex.Goals.{then-key-wide, else-key-wide, then-same_row, else-same_row}
use Rattle.vertices.proofs.places.VertexSlices.same_vertex.Goals as goal

apart : {v : Bool} → v ≡ true → v ≡ false → ⊥
apart p q = let z : ◌≡◌ {A = Bool} true false = sym p ∙ q in cc

pub returns-then-same_row-2 : goal.returns-then-same_row-2
returns-then-same_row-2 c = elim c.if-same_row.branch [
  | then-same_row w ↦ elim c.if-key-wide.branch [
    | then-key-wide v ↦ sym (same_key_lem _ _ _ _ _ c.requires c.args.key.now.full ∙ rw (← c.wide.ensures, eq-eqb _ _ v.if-key-wide.true, ← v.same_row.ensures, sym v.value-is ∙ w.if-same_row.true, ← w.same_row-then-same_row.ensures, sym w.value-is ∙ c.if-same_row-2.true) (sym c.same_row-then-same_row-2.ensures))
    | else-key-wide v ↦ absurd (apart w.if-same_row.true (v.value-is ∙ ne_eqb _ _ v.if-key-wide.false))
  ]
  | else-same_row w ↦ absurd (apart c.if-same_row-2.true (w.value-is ∙ w.if-same_row.false))
]

pub returns-else-same_row-2 : goal.returns-else-same_row-2
returns-else-same_row-2 c = elim c.if-same_row.branch [
  | then-same_row w ↦ elim c.if-key-wide.branch [
    | then-key-wide v ↦ c.if-same_row-2.false ∙ sym (same_key_lem _ _ _ _ _ c.requires c.args.key.now.full ∙ rw (← c.wide.ensures, eq-eqb _ _ v.if-key-wide.true, ← v.same_row.ensures, sym v.value-is ∙ w.if-same_row.true, ← w.same_row-then-same_row.ensures, sym w.value-is ∙ c.if-same_row-2.false))
    | else-key-wide v ↦ absurd (apart w.if-same_row.true (v.value-is ∙ ne_eqb _ _ v.if-key-wide.false))
  ]
  | else-same_row w ↦ elim c.if-key-wide.branch [
    | then-key-wide v ↦ c.if-same_row-2.false ∙ sym (same_key_lem _ _ _ _ _ c.requires c.args.key.now.full ∙ rw (← c.wide.ensures, eq-eqb _ _ v.if-key-wide.true, ← v.same_row.ensures, sym v.value-is ∙ w.if-same_row.false))
    | else-key-wide v ↦ c.if-same_row-2.false ∙ sym (same_key_lem _ _ _ _ _ c.requires c.args.key.now.full ∙ rw (← c.wide.ensures, ne_eqb _ _ v.if-key-wide.false))
  ]
]
