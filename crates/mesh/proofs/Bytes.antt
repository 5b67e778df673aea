-- Two blocks that are equal outside one run of coordIndex have the same header, settings and other lists, and index lists that are equal outside that run.
use mathlib.Core.Path.{◌≡◌, refl, sym, ap, ◌∙◌, subst}
use mathlib.Core.List.{List}
use Prim.Native.Nat.{ℕ, zero, suc, ◌+◌, ◌*◌, ◌-◌, ◌/◌, ◌%◌, ◌^◌, ◌≤◌, ◌<◌}
use native.Mathlib.Omega.{arith}
use lib.ListN.{length, get_or, take, drop, length-take, length-drop}
use lib.Seq.{take-take, drop-drop, take_all, get_or-take}
use Rattle.bits.specs.Bits.{field, entries}
use Rattle.bits.proofs.Entries.{entries_length, entries_part}
use Rattle.block.specs.declared.header.Header.{Header}
use Rattle.block.specs.Edition.{edition_in, words_ahead}
use Rattle.block.specs.Header.{header_of}
use Rattle.block.specs.Extents.{widths, ahead, list_at, list_size, place_of, list_bytes}
use Rattle.block.proofs.Reading.{header_same, settings_same}
use Rattle.block.proofs.ExtentLaws.{words_more}
use Rattle.mesh.specs.FaceSet.{rest_of, coord_in, runs_in}
use Rattle.mesh.specs.OneRun.{run_in, byte_of, OneRun}
use Rattle.lists.proofs.Lists.{drop_take, back, middle}
use Rattle.mesh.proofs.Runs.{run_within, OneRunOf}

-- ---- the header and the twelve words

module _ (b c : List ℕ) (m : ℕ) (e : take m b ≡ take m c) where
  byte_same : (k : ℕ) → k < m → get_or b k 0 ≡ get_or c k 0
  byte_same k h = sym (get_or-take m b k 0 h) ∙ ap (λ (l : List ℕ). get_or l k 0) e ∙ get_or-take m c k 0 h

  field_same : (i n : ℕ) → i + n ≤ m * 8 → field b i n ≡ field c i n
  unfolding field
  field_same i zero h = refl
  field_same i (suc n) h =
      let f : field b i n ≡ field c i n = field_same i n (omega arith) in
      let g : get_or b ((i + n) / 8) 0 ≡ get_or c ((i + n) / 8) 0 = byte_same ((i + n) / 8) (omega arith) in
      λ t. f t * 2 + g t / 2 ^ (7 - (i + n) % 8) % 2

-- ---- where the lists lie: the points before coordIndex, the others after it

module _ (h : Header) where
  next_place : (k : ℕ) → (place_of h (suc k)).at ≡ (place_of h k).at + (place_of h k).len
  unfolding place_of list_at list_size
  next_place k = let e = words_more (widths h) h.counts k in omega arith

  after_words : (k : ℕ) → 4 * ahead h ≤ (place_of h k).at
  unfolding place_of list_at
  after_words k = omega arith

  later : (k : ℕ) → (place_of h 1).at + (place_of h 1).len ≤ (place_of h (suc (suc k))).at
  later zero = let e = next_place 1 in omega arith
  later (suc k) = let e = next_place (suc (suc k)) in let d = later k in omega arith

-- ---- the entries of two lists that are equal outside the entries from s on, n of them

module _ (b c : List ℕ) (a len s n : ℕ) (fore : take (a + 4 * s) b ≡ take (a + 4 * s) c) (aft : drop (a + 4 * (s + n)) b ≡ drop (a + 4 * (s + n)) c)
    (in_b : s + n ≤ length (entries (take len (drop a b)))) (in_c : s + n ≤ length (entries (take len (drop a c)))) where
  X : List ℕ
  X = take len (drop a b)

  Y : List ℕ
  Y = take len (drop a c)

  size_b : 4 * (s + n) ≤ length X
  unfolding X
  size_b = omega (arith, entries_length (take len (drop a b)))

  size_c : 4 * (s + n) ≤ length Y
  unfolding Y
  size_c = omega (arith, entries_length (take len (drop a c)))

  size_len : 4 * (s + n) ≤ len
  unfolding X
  size_len = omega (arith, size_b, length-take len (drop a b))

  front_same : take (4 * s) X ≡ take (4 * s) Y
  unfolding X Y
  front_same =
      let l = size_len in
      take-take (4 * s) len (drop a b) (omega arith) ∙ middle a (4 * s) (a + 4 * s) b c (omega arith) fore ∙ sym (take-take (4 * s) len (drop a c) (omega arith))

  back_same : drop (4 * (s + n)) X ≡ drop (4 * (s + n)) Y
  unfolding X Y
  back_same =
      let k : ℕ = 4 * (s + n) in
      drop_take k len (drop a b) ∙ ap (take (len - k)) (drop-drop k a b ∙ aft ∙ sym (drop-drop k a c)) ∙ sym (drop_take k len (drop a c))

  long_same : length X ≡ length Y
  long_same =
      let k : ℕ = 4 * (s + n) in
      let e : length (drop k X) ≡ length (drop k Y) = ap length back_same in
      omega (arith, length-drop k X, length-drop k Y, size_b, size_c)

  pub entries_fore : take s (entries (take len (drop a b))) ≡ take s (entries (take len (drop a c)))
  unfolding X Y
  entries_fore =
      sym (entries_part X 0 s (omega (arith, size_b))) ∙ ap entries front_same ∙ entries_part Y 0 s (omega (arith, size_c))

  -- the entries from k on are those of the bytes from 4 k on
  rest_entries : (l : List ℕ) (k : ℕ) → 4 * k ≤ length l → drop k (entries l) ≡ entries (take (4 * (length l / 4 - k)) (drop (4 * k) l))
  rest_entries l k h =
      sym (take_all (length l / 4 - k) (drop k (entries l)) (omega (arith, length-drop k (entries l), entries_length l)))
      ∙ sym (entries_part l k (length l / 4 - k) (omega arith))

  pub entries_aft : drop (s + n) (entries (take len (drop a b))) ≡ drop (s + n) (entries (take len (drop a c)))
  unfolding X Y
  entries_aft =
      rest_entries X (s + n) size_b
      ∙ (λ t. entries (take (4 * (long_same t / 4 - (s + n))) (back_same t)))
      ∙ sym (rest_entries Y (s + n) size_c)

-- ---- two blocks that are equal outside run r

module _ (b c : List ℕ) (r : ℕ) (h : OneRun b c r) where
  s : ℕ
  s = (run_in b r).start

  n : ℕ
  n = length (run_in b r).items

  -- the bits ahead of the lists
  bits_same : (i n : ℕ) → i + n ≤ 32 * words_ahead (edition_in b) → field b i n ≡ field c i n
  unfolding byte_of s header_of
  bits_same i n l = field_same b c (byte_of b s) h.fore i n (omega (arith, after_words (header_of b) 1))

  pub heads : header_of b ≡ header_of c
  unfolding s
  heads = header_same b c bits_same

  -- coordIndex in both, by the header of b
  a : ℕ
  a = (place_of (header_of b) 1).at

  len : ℕ
  len = (place_of (header_of b) 1).len

  coord_c : coord_in c ≡ take len (drop a c)
  unfolding coord_in a len
  coord_c = ap (λ (g : Header). list_bytes c g 1) (sym heads)

  within_b : s + n ≤ length (entries (take len (drop a b)))
  unfolding s n a len coord_in runs_in
  within_b = run_within (entries (coord_in b)) r h.in_b

  within_c : s + n ≤ length (entries (take len (drop a c)))
  unfolding s n runs_in
  within_c =
      let w = run_within (entries (coord_in c)) r h.in_c in
      let p : s ≡ (run_in c r).start = h.place in
      let q : n ≡ length (run_in c r).items = h.long in
      subst (λ (l : List ℕ). s + n ≤ length (entries l)) coord_c (omega arith)

  fore_same : take (a + 4 * s) b ≡ take (a + 4 * s) c
  unfolding a s byte_of
  fore_same = h.fore

  aft_same : drop (a + 4 * (s + n)) b ≡ drop (a + 4 * (s + n)) c
  unfolding a s n byte_of
  aft_same = h.aft

  pub coords : OneRunOf (entries (coord_in b)) (entries (coord_in c)) r
  unfolding a len s n coord_in runs_in
  coords = record {
    in_l = h.in_b;
    in_m = h.in_c;
    place = h.place;
    long = h.long;
    fore = entries_fore b c a len s n fore_same aft_same within_b within_c ∙ ap (λ (l : List ℕ). take s (entries l)) (sym coord_c);
    aft = entries_aft b c a len s n fore_same aft_same within_b within_c ∙ ap (λ (l : List ℕ). drop (s + n) (entries l)) (sym coord_c);
  }

  -- the lists before and after it
  points_same : list_bytes b (header_of b) 0 ≡ list_bytes c (header_of c) 0
  unfolding a
  points_same =
      let H : Header = header_of b in
      let e = next_place H 0 in
      middle (place_of H 0).at (place_of H 0).len (a + 4 * s) b c (omega arith) fore_same ∙ ap (λ (g : Header). list_bytes c g 0) heads

  list_same : (k : ℕ) → list_bytes b (header_of b) (suc (suc k)) ≡ list_bytes c (header_of c) (suc (suc k))
  unfolding a len
  list_same k =
      let H : Header = header_of b in
      let l = later H k in
      let z = size_len b c a len s n fore_same aft_same within_b within_c in
      ap (take (place_of H (suc (suc k))).len) (back (a + 4 * (s + n)) (place_of H (suc (suc k))).at b c (omega arith) aft_same)
      ∙ ap (λ (g : Header). list_bytes c g (suc (suc k))) heads

  pub rest_same : rest_of b ≡ rest_of c
  unfolding rest_of s
  rest_same = λ t. record {
    head = heads t;
    settings = settings_same b c bits_same t;
    points = entries (points_same t);
    colours = list_same 0 t;
    colour_index = list_same 1 t;
    normals = list_same 2 t;
    normal_index = list_same 3 t;
    textures = list_same 4 t;
    texture_index = list_same 5 t;
  }
