-- The words of a corner's key that are made: the others may be any.
use mathlib.Core.Path.{◌≡◌, refl, ap, sym, ◌∙◌}
use mathlib.Core.List.{List, [], ◌++◌}
use Prim.Native.Nat.{ℕ, ◌≤◌}
use lib.ListN.{take}
use Rattle.bits.specs.declared.Words2.{Words2}
use Rattle.bits.specs.declared.Words3.{Words3}
use Rattle.bits.specs.declared.Words4.{Words4}
use Rattle.mesh.specs.Words.{words2, words3, words4}
use Rattle.mesh.specs.Vertices.{Key}
use Rattle.vertices.specs.declared.places.Widths.{Widths}
use Rattle.vertices.specs.Places.{normal_words, colour_words, texture_words}
use Rattle.vertices.specs.Hash.{normal_of, colour_of, texture_of}
use Rattle.vertices.specs.Search.{two, three, four, corner_key}
use Rattle.vertices.specs.Adding.{trimmed}
use Rattle.vertices.proofs.Keys.{corner_key_lem}

-- no words are the same as any others
pub same_none : (w : ℕ) (a b : List ℕ) → w ≡ 0 → take w a ≡ take w b
same_none w a b e = rw e refl

pub same_made : (w : Widths) (v : ℕ) (n n' : Words3) (k k' : Words4) (x x' : Words2)
    → (w.normal ≤ normal_words) × (w.colour ≤ colour_words) × (w.texture ≤ texture_words)
    → take w.normal (words3 n) ≡ take w.normal (words3 n') → take w.colour (words4 k) ≡ take w.colour (words4 k')
    → take w.texture (words2 x) ≡ take w.texture (words2 x')
    → corner_key w v (words3 n ++ words4 k ++ words2 x) ≡ corner_key w v (words3 n' ++ words4 k' ++ words2 x')
unfolding trimmed normal_of colour_of texture_of
same_made w v n n' k k' x x' d a b c =
    corner_key_lem w (record { point = v; normal = n; colour = k; texture = x }) _ d refl
    ∙ (λ i. record { point = v; normal = three (a i); colour = four (b i); texture = two (c i) })
    ∙ sym (corner_key_lem w (record { point = v; normal = n'; colour = k'; texture = x' }) _ d refl)
