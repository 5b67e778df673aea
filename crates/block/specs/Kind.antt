-- The kinds of a block, and what goes by the kind. FORMAT 2.2.
use Rattle.std.specs.Prelude.{ℕ, Bool, true, false, [], ◌∷◌, get_or}
use Rattle.block.specs.declared.kind.Kind.{Kind}
use Rattle.block.specs.declared.kind.Kind.TheVariants.{FaceSet, LineSet, Grid, Extrusion, Primitives}
use Rattle.block.specs.declared.topology.Topology.{Topology}
use Rattle.block.specs.declared.topology.Topology.TheVariants.{Triangles, Fans, Strips, Quads}

-- FORMAT 2.2: the kind of each number; a field of 3 bits has none above 7
abbrev pub kind_of : ℕ → Kind
kind_of n = get_or (FaceSet ∷ LineSet ∷ Grid ∷ Extrusion ∷ Primitives Triangles ∷ Primitives Fans ∷ Primitives Strips ∷ []) n (Primitives Quads)

-- the one of the kind
abbrev pub by_kind : {A : Type 0} → Kind → (face_set line_set grid extrusion : A) → (primitives : Topology → A) → A
by_kind FaceSet a b c d e = a
by_kind LineSet a b c d e = b
by_kind Grid a b c d e = c
by_kind Extrusion a b c d e = d
by_kind (Primitives g) a b c d e = e g

-- FORMAT 3, 9: whether it is a triangle, fan, strip or quad set
abbrev pub is_primitives : Kind → Bool
is_primitives k = by_kind k false false false false (λ g. true)

-- FORMAT 2.4: whether a kind has index lists
abbrev pub is_indexed : Kind → Bool
is_indexed k = by_kind k true true false false (λ g. true)

-- FORMAT 5: whether indices go in pairs, as lines
abbrev pub is_lines : Kind → Bool
is_lines k = by_kind k false true false false (λ g. false)
