-- FORMAT 14: the most bytes that an answer's text has.
use Prim.Native.Nat.{ℕ, suc, ◌+◌, ◌*◌, ◌/◌, ◌^◌, ◌≤◌, ◌<◌}
use mathlib.Core.Bool.{Bool, true, false}
use mathlib.Core.List.{List, [], ◌∷◌, ◌++◌}
use native.Mathlib.Nat.{zero-add, le_trans, mul-le-mul_left}
use native.Mathlib.Omega.{arith}
use lib.ListN.{length, get_or}
use Rattle.lists.specs.Loops.{tab}
use Rattle.lists.specs.Lists.{flat}
use Rattle.lists.proofs.Pieces.{flat_most}
use Rattle.mesh.specs.Mesh.{Slices}
use Rattle.lists.proofs.Lists.{join_most}
use Rattle.lent.specs.declared.answer.Report.{Report}
use Rattle.text.specs.declared.lines.Parts.{Parts}
use Rattle.text.specs.Digits.{hexadecimal, decimal}
use Rattle.text.specs.Fields.{word_field, number_field, fields, attribute}
use Rattle.text.specs.Lines.{place_text, made_text, vertex_line, element_line, element_lines}
use Rattle.std.specs.Int.{from_bool}
use Rattle.text.specs.Answer.{counts_text, flags_text, head_line, mesh_text, refusal_text, long_text, text_room}
use Rattle.text.proofs.ReadBack.{digits_most, digits_short}

-- ---- pieces

word_most : (n : ℕ) → length (word_field n) ≤ 9
unfolding word_field hexadecimal
word_most n = omega (arith, digits_most false 16 8 n)

-- a number below 10 ^ (i + 1): a space and at most i + 1 digits
number_most : (i n : ℕ) → n < 10 ^ suc i → length (number_field n) ≤ suc (suc i)
unfolding number_field decimal
number_most i n h = omega (arith, digits_short 10 10 i n (omega arith) h)

number_any : (n : ℕ) → length (number_field n) ≤ 11
unfolding number_field decimal
number_any n = omega (arith, digits_most true 10 10 n)

words_most : (l : List ℕ) (a m : ℕ) → length (fields word_field l a m) ≤ 9 * m
unfolding fields
words_most l a m = flat_most (λ (j : ℕ). word_field (get_or l (a + j) 0)) 9 m 0 (λ j _. word_most (get_or l (a + (0 + j)) 0))

-- m numbers, each of at most w bytes with its space
numbers_most : (w : ℕ) (l : List ℕ) (a m : ℕ) → ((j : ℕ) → j < m → length (number_field (get_or l (a + j) 0)) ≤ w) → length (fields number_field l a m) ≤ w * m
unfolding fields
numbers_most w l a m h = flat_most (λ (j : ℕ). number_field (get_or l (a + j) 0)) w m 0 (λ j b. rw zero-add (h j b))

attribute_most : (made : Bool) (c : ℕ) (l : List ℕ) (a m : ℕ) → length (attribute made c l a m) ≤ 2 + 9 * m
unfolding attribute
attribute_most true c l a m = omega (arith, words_most l a m)
attribute_most false c l a m = omega arith

-- ---- lines, where a number takes at most w bytes

module _ (parts : Parts) (s p n c t : List ℕ) (v w : ℕ) where
  place_most : length (number_field (get_or s v 0)) ≤ w → length (place_text s p v) ≤ w + 28
  unfolding place_text
  place_most h =
      let e = join_most (number_field (get_or s v 0)) (fields word_field p (3 * v) 3) h (words_most p (3 * v) 3) in
      omega (arith, e)

  made_most : length (made_text parts n c t v) ≤ 87
  unfolding made_text
  made_most =
      join_most (attribute parts.normals 110 n (3 * v) 3) _ (attribute_most parts.normals 110 n (3 * v) 3)
      (join_most (attribute parts.colours 99 c (4 * v) 4) _ (attribute_most parts.colours 99 c (4 * v) 4)
      (attribute_most parts.texture 117 t (2 * v) 2))

  vertex_most : length (number_field (get_or s v 0)) ≤ w → length (vertex_line parts s p n c t v) ≤ w + 116
  unfolding vertex_line
  vertex_most h =
      let e = join_most (place_text s p v) (made_text parts n c t v ++ (10 ∷ [])) (place_most h) (join_most (made_text parts n c t v) (10 ∷ []) {k = 1} made_most (omega arith)) in
      omega (arith, e)

element_most : (w letter m : ℕ) (l : List ℕ) (i : ℕ) → ((j : ℕ) → j < m → length (number_field (get_or l (m * i + j) 0)) ≤ w)
    → length (element_line letter m l i) ≤ 2 + w * m
unfolding element_line
element_most w letter m l i h =
    let e = join_most (fields number_field l (m * i) m) (10 ∷ []) {k = 1} (numbers_most w l (m * i) m h) (omega arith) in
    omega (arith, e)

-- 384 lines of two numbers are more than 256 triangles of three
elements_most : (w : ℕ) (lines : Bool) (n : ℕ) (l : List ℕ) → n ≤ 768 → ((i : ℕ) → i < n → length (number_field (get_or l i 0)) ≤ w)
    → length (element_lines lines n l) ≤ (2 + w * 2) * 384
unfolding element_lines
elements_most w true n l b h =
    le_trans
    (flat_most (element_line 108 2 l) (2 + w * 2) (n / 2) 0 (λ i q. element_most w 108 2 l (0 + i) (λ j r. h (2 * (0 + i) + j) (omega arith))))
    (mul-le-mul_left (2 + w * 2) (omega arith))
elements_most w false n l b h =
    let few : (2 + w * 3) * (n / 3) ≤ (2 + w * 3) * 256 = mul-le-mul_left (2 + w * 3) (omega arith) in
    let all : (2 + w * 3) * 256 ≤ (2 + w * 2) * 384 = omega arith in
    le_trans
    (flat_most (element_line 116 3 l) (2 + w * 3) (n / 3) 0 (λ i q. element_most w 116 3 l (0 + i) (λ j r. h (3 * (0 + i) + j) (omega arith))))
    (le_trans few all)

flag_most : (b : Bool) → length (number_field (from_bool b)) ≤ 2
flag_most true = number_most 0 1 (omega arith)
flag_most false = number_most 0 0 (omega arith)

head_most : (head : Report) → head.vertices ≤ 256 → head.indices ≤ 768 → length (head_line head) ≤ 19
unfolding head_line counts_text flags_text
head_most head v i =
    let counts =
    join_most (number_field head.vertices) (number_field head.indices) (number_most 2 head.vertices (omega arith)) (number_most 2 head.indices (omega arith)) in
    let flags : length (flags_text head) ≤ 7 =
    join_most (number_field (from_bool head.solid)) _ (flag_most head.solid)
    (join_most (number_field (from_bool head.unlit)) _ (flag_most head.unlit)
    (join_most (number_field (from_bool head.has_colors)) (10 ∷ []) {k = 1} (flag_most head.has_colors) (omega arith))) in
    let c : length (counts_text head) ≤ 12 = omega (arith, counts) in
    join_most (counts_text head) (flags_text head) c flags

-- ---- texts

module _ (head : Report) (parts : Parts) (S : Slices) (few_vertices : head.vertices ≤ 256) (few_indices : head.indices ≤ 768) where
  -- where each source and each vertex number takes at most w bytes with its space
  text_most : (w : ℕ) → ((v : ℕ) → v < head.vertices → length (number_field (get_or S.sources v 0)) ≤ w)
      → ((i : ℕ) → i < head.indices → length (number_field (get_or S.indices i 0)) ≤ w)
      → length (mesh_text head parts S) ≤ 19 + ((w + 116) * 256 + (2 + w * 2) * 384)
  unfolding mesh_text
  text_most w s x =
      let line = vertex_line parts S.sources S.positions S.normals S.colours S.textures in
      let lines = flat (tab line head.vertices 0) in
      let a : length lines ≤ (w + 116) * head.vertices =
      flat_most line (w + 116) head.vertices 0
      (λ j l. vertex_most parts S.sources S.positions S.normals S.colours S.textures (0 + j) w (rw zero-add (s j l))) in
      let rest = element_lines parts.lines head.indices S.indices in
      let b : length rest ≤ (2 + w * 2) * 384 = elements_most w parts.lines head.indices S.indices few_indices x in
      join_most (head_line head) (lines ++ rest) (head_most head few_vertices few_indices)
      (join_most lines rest (le_trans a (mul-le-mul_left (w + 116) few_vertices)) b)

  -- whatever the slices hold: ten digits each
  pub text_fits : length (mesh_text head parts S) ≤ text_room
  unfolding text_room
  text_fits = text_most 11 (λ v l. number_any (get_or S.sources v 0)) (λ i l. number_any (get_or S.indices i 0))

-- whatever the number
pub refusal_fits : (n : ℕ) → length (refusal_text n) ≤ text_room
unfolding refusal_text text_room
refusal_fits n = let e = join_most (number_field n) (10 ∷ []) {k = 1} (number_any n) (omega arith) in omega (arith, e)

pub long_fits : length long_text ≤ text_room
unfolding long_text text_room
long_fits = omega arith
