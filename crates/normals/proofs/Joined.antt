-- What is written is the mesh's corner normals: for tables that hold the soup of a frame and its faces, where no normals are supplied.
use mathlib.Core.Path.{◌≡◌, refl, sym, ap, ap₂, ◌∙◌}
use mathlib.Core.Bool.{true, false, cond}
use mathlib.Core.List.{List, [], ◌∷◌, ◌++◌, map}
use Prim.Native.Nat.{ℕ, suc, ◌+◌, ◌*◌, ◌<◌}
use native.Mathlib.Nat.{zero-add}
use native.Mathlib.Omega.{arith}
use lib.Dec.{eqb}
use lib.ListN.{length, get_or, take, drop, length-map}
use lib.Seq.{take_all, get_or-take, get_or-drop}
use lib.Ieee.{Float, binary32, to_bits}
use Rattle.bits.specs.declared.Words3.{Words3}
use Rattle.math.specs.declared.vector.V3.{V3}
use Rattle.math.specs.Vector.{y_axis, unit_of}
use Rattle.polygon.specs.Points.{spots}
use Rattle.polygon.specs.Facing.{newell}
use Rattle.polygon.specs.Plane.{handed}
use Rattle.lists.specs.Lists.{join_n, total, flat}
use Rattle.mesh.specs.Words.{words3, no3, bits}
use Rattle.mesh.specs.Soup.{Corner, no_corner, Face, Frame, points_of}
use Rattle.mesh.specs.Normals.{outline, facing, Hit, hits, hits_of, incident, crease_sum, or_else, generated, corner_normal}
use Rattle.lists.proofs.Lists.{All_of, All_of_map, get_or_map_lt, length_join_n, piece, length_flat, in_flat, middle, map_part}
use Rattle.tables.specs.declared.layout.Plan.{Plan}
use Rattle.tables.specs.Soups.{start_in, bare, points_in, soup_in, frame_in, Holds}
use Rattle.tables.proofs.Stays.{start_le}
use Rattle.tables.proofs.Held.{faces_held, start_held, starts_held}
use Rattle.normals.specs.Written.{spread, face_normals, normals_of, Generated}

-- ---- the words of vectors

pub spread_bits : (l : List V3) → map (to_bits binary32) (spread l) ≡ flat (map words3 (map bits l))
unfolding spread flat
spread_bits [] = refl
spread_bits (v ∷ l) = ap (λ (r : List ℕ). words3 (bits v) ++ r) (spread_bits l)

-- ---- attributes do not matter

points_bare : (f : Face) → points_of (map bare f) ≡ points_of f
points_bare [] = refl
points_bare (c ∷ f) = ap (λ (r : List ℕ). c.point ∷ r) (points_bare f)

hits_bare : (p : ℕ) (h : Hit) (f : Face) → hits p h (map bare f) ≡ hits p h f
unfolding hits
hits_bare p h [] = refl
hits_bare p h (c ∷ f) = ap (λ (r : List Hit). cond (eqb c.gather p) (h ∷ r) r) (hits_bare p h f)

module _ (F : Frame) where
  facing_bare : (f : Face) → facing F (map bare f) ≡ facing F f
  unfolding facing outline
  facing_bare f = ap (λ (l : List ℕ). handed F.ccw (newell (spots F.points l))) (points_bare f)

  incident_bare : (p n : ℕ) (fs : List Face) → join_n (hits_of F p) n (map (map bare) fs) ≡ join_n (hits_of F p) n fs
  unfolding join_n hits_of
  incident_bare p n [] = refl
  incident_bare p n (f ∷ fs) =
      ap₂ (λ (a b : List Hit). a ++ b)
      (ap (λ (v : V3). hits p (record { face = n; normal = v }) (map bare f)) (facing_bare f) ∙ hits_bare p (record { face = n; normal = facing F f }) f)
      (incident_bare p (suc n) fs)

  generated_bare : (fs : List Face) (num : ℕ) (f : Face) (p : ℕ) → generated F (map (map bare) fs) num (map bare f) p ≡ generated F fs num f p
  unfolding generated incident
  generated_bare fs num f p =
      λ z. or_else (unit_of (crease_sum F.crease num (facing_bare f z) (incident_bare p 0 fs z))) (or_else (unit_of (facing_bare f z)) y_axis)

  module _ (e : F.supplied ≡ false) (fs : List Face) where
    face_words : (num : ℕ) (f cs : Face) → map bits (map (λ (c : Corner). generated F (map (map bare) fs) num (map bare f) c.gather) (map bare cs)) ≡ map (corner_normal F fs num f) cs
    unfolding corner_normal
    face_words num f [] = refl
    face_words num f (c ∷ cs) = ap₂ (λ (x : Words3) (l : List Words3). x ∷ l) (ap bits (generated_bare fs num f c.gather) ∙ rw e) (face_words num f cs)

    all_words : (n : ℕ) (gs : List Face)
        → map bits (join_n (face_normals F (map (map bare) fs)) n (map (map bare) gs)) ≡ join_n (λ (num : ℕ) (f : Face). map (corner_normal F fs num f) f) n gs
    unfolding join_n face_normals
    all_words n [] = refl
    all_words n (f ∷ gs) =
        bits_app (face_normals F (map (map bare) fs) n (map bare f)) (join_n (face_normals F (map (map bare) fs)) (suc n) (map (map bare) gs))
        ∙ ap₂ (λ (a b : List Words3). a ++ b) (face_words n f f) (all_words (suc n) gs)
      where
        bits_app : (l m : List V3) → map bits (l ++ m) ≡ map bits l ++ map bits m
        bits_app [] m = refl
        bits_app (x ∷ l) m = ap (λ (r : List Words3). bits x ∷ r) (bits_app l m)

-- the frame of the tables has the points, ccw and crease of F
normals_frame : (w : List ℕ) (t : Plan) (F : Frame) → points_in w t ≡ F.points → (fs : List Face) → normals_of (frame_in w t F.ccw F.crease) fs ≡ normals_of F fs
unfolding normals_of face_normals generated incident hits_of facing outline frame_in
normals_frame w t F e fs = ap (λ (l : List ℕ). normals_of (record { points = l; ccw = F.ccw; convex = true; supplied = false; crease = F.crease }) fs) e

-- FORMAT 10.2: the words of what `generate` writes are those of the definition, face by face and corner by corner
pub written : {w : List ℕ} {t : Plan} {F : Frame} {fs : List Face} → Holds w t F fs → F.supplied ≡ false
    → map (to_bits binary32) (spread (normals_of (frame_in w t F.ccw F.crease) (soup_in w t)))
    ≡ flat (map words3 (join_n (λ (num : ℕ) (f : Face). map (corner_normal F fs num f) f) 0 fs))
unfolding normals_of
written {w} {t} {F} {fs} H e =
    spread_bits (normals_of (frame_in w t F.ccw F.crease) (soup_in w t))
    ∙ ap (λ (l : List V3). flat (map words3 (map bits l))) (normals_frame w t F H.points (soup_in w t) ∙ ap (normals_of F) (sym H.faces))
    ∙ ap (λ (l : List Words3). flat (map words3 l)) (all_words F e fs 0 fs)

-- ---- corner by corner

module _ {w : List ℕ} {t : Plan} {F : Frame} {fs : List Face} (H : Holds w t F fs) where
  normals_length : length (join_n (λ (num : ℕ) (f : Face). map (corner_normal F fs num f) f) 0 fs) ≡ t.count
  normals_length =
      let l = faces_held H in
      let k : take t.faces fs ≡ fs = take_all t.faces fs (omega arith) in
      length_join_n (λ (num : ℕ) (f : Face). map (corner_normal F fs num f) f) length (λ n f. length-map f (corner_normal F fs n f)) 0 fs
      ∙ sym (ap (total length) k) ∙ starts_held H t.faces (omega arith) ∙ H.sound.last

  normal_at_lem : (j i : ℕ) → j < t.faces → i < length (get_or fs j [])
      → get_or (join_n (λ (num : ℕ) (f : Face). map (corner_normal F fs num f) f) 0 fs) (start_in w t j + i) no3 ≡ corner_normal F fs j (get_or fs j []) (get_or (get_or fs j []) i no_corner)
  normal_at_lem j i h b =
      let g : ℕ → Face → List Words3 = λ (num : ℕ) (f : Face). map (corner_normal F fs num f) f in
      let f = get_or fs j [] in
      let l = faces_held H in
      let p : take (length f) (drop (start_in w t j) (join_n g 0 fs)) ≡ g j f
      = ap (λ (k : ℕ). take (length f) (drop k (join_n g 0 fs))) (sym (starts_held H j (omega arith)))
      ∙ piece g length (λ n f. length-map f (corner_normal F fs n f)) fs 0 j [] (omega arith) ∙ ap (λ (k : ℕ). g k f) (zero-add j) in
      sym (get_or-take (length f) (drop (start_in w t j) (join_n g 0 fs)) i no3 b ∙ get_or-drop (start_in w t j) (join_n g 0 fs) i no3)
      ∙ ap (λ (r : List Words3). get_or r i no3) p ∙ get_or_map_lt (corner_normal F fs j f) f i no3 no_corner b

  -- the words of the three floats of corner i of face j
  pub corner_written : (w' : List ℕ) (e : List Float) → Generated w w' t F.ccw F.crease e → F.supplied ≡ false → (j i : ℕ) → j < t.faces → i < length (get_or fs j [])
      → map (to_bits binary32) (take 3 (drop (3 * (start_in w t j + i)) e)) ≡ words3 (corner_normal F fs j (get_or fs j []) (get_or (get_or fs j []) i no_corner))
  corner_written w' e G s j i h b =
      let L = join_n (λ (num : ℕ) (f : Face). map (corner_normal F fs num f) f) 0 fs in
      let N = normals_of (frame_in w t F.ccw F.crease) (soup_in w t) in
      let c = start_in w t j + i in
      let n = normals_length in
      let m = start_le H.sound (suc j) h in
      let q = start_held H j h in
      let o = written H s in
      let x : length (spread N) ≡ 3 * t.count
      = sym (length-map (spread N) (to_bits binary32)) ∙ ap length o ∙ length_flat 3 (map words3 L) (All_of_map _ words3 L (All_of (λ (v : Words3). refl) L)) ∙ ap (λ (k : ℕ). 3 * k) (length-map L words3 ∙ n) in
      let y : take 3 (drop (3 * c) e) ≡ take 3 (drop (3 * c) (spread N))
      = middle (3 * c) 3 (3 * t.count) e (spread N) (omega arith) (G.normals ∙ sym (take_all (3 * t.count) (spread N) (omega arith))) in
      ap (map (to_bits binary32)) y ∙ map_part (to_bits binary32) 3 (3 * c) (spread N) ∙ ap (λ (k : List ℕ). take 3 (drop (3 * c) k)) o
      ∙ in_flat words3 3 (λ (v : Words3). refl) L c no3 (omega arith) ∙ ap words3 (normal_at_lem j i h b)
