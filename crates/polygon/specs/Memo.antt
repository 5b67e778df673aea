-- FORMAT 12.3, how the code clips ears: the tables of its working slice, what it keeps of earlier searches, and what each thing that it keeps says.
use Rattle.std.specs.Prelude.{ℕ, zero, suc, ◌+◌, ◌-◌, ◌*◌, ◌<◌, ◌≡◌, Bool, true, false, not, ◌&&◌, List, [], length, get_or, take, set, ltb, eqb, Float}
use Rattle.std.specs.Float.{nan}
use Rattle.std.specs.Float.Ieee.{le}
use Rattle.lists.specs.Searches.{Once}
use Rattle.lists.specs.Loops.{pick, any, first}
use Rattle.lists.specs.Lists.{remove}
use Rattle.polygon.specs.Ears.{Pt, +0, cross2, point_in_tri, blocks}
use Rattle.polygon.specs.declared.memo.Dot.{Dot}
use Rattle.polygon.specs.declared.memo.Finding.{Finding}
use Rattle.polygon.specs.declared.memo.Finding.TheVariants.{Unknown, Bent, Blocked}

-- the point of corner j in a list of coordinates
abbrev pub xy : List Float → ℕ → Pt
xy l j = (get_or l (j * 2) nan, get_or l (j * 2 + 1) nan)

-- where the corner j lies, as the code has it, and as a point
abbrev pub dot_of : (ℕ → Pt) → ℕ → Dot
dot_of P j = record { x = (P j).0; y = (P j).1 }

abbrev pub spot_of : Dot → Pt
spot_of d = (d.x, d.y)

-- the test of `blocks`, of a triangle that was read, none of whose corners is left meanwhile
abbrev pub inside : (ℕ → Pt) → Dot → Dot → Dot → ℕ → Bool
inside P a b c j = point_in_tri (P j) (spot_of a) (spot_of b) (spot_of c)

-- `left` holds a 1 for each corner that is left. Corner j is left, and passes the test g
unfoldable pub hits : List ℕ → (ℕ → Bool) → ℕ → Bool
hits left g j = eqb (get_or left j 0) 1 && g j

-- the first such corner by number; the number of corners where there is none
unfoldable pub hit : List ℕ → (ℕ → Bool) → ℕ
hit left g = first (hits left g) (length left) 0

-- `left` tells the corners of the order l: a test passes at some corner of l if it does at some corner that is left
unfoldable pub Tells : List ℕ → List ℕ → Type 0
Tells left l = (g : ℕ → Bool) → any g l ≡ ltb (hit left g) (length left)

-- whether b is an ear between a and c, of the corners that are left
unfoldable pub ear_of : (ℕ → Pt) → List ℕ → ℕ → ℕ → ℕ → Bool
ear_of P left a b c = not (le (cross2 (P a) (P b) (P c)) +0) && not (ltb (hit left (blocks P a b c)) (length left))

-- no corner before k that is left lies in a b c
abbrev pub Clear : (ℕ → Pt) → List ℕ → ℕ → ℕ → ℕ → ℕ → Type 0
Clear P left a b c k = (j : ℕ) → j < k → hits left (blocks P a b c) j ≡ false

-- the corner b between a and c is neither reflex nor degenerate, the corner k lies in it, and no corner before k that is left does
pub record Stands (P : ℕ → Pt) (left : List ℕ) (a b c k : ℕ) : Type 0 where
  pub inside : k < length left
  pub round : le (cross2 (P a) (P b) (P c)) +0 ≡ false
  pub blocked : blocks P a b c k ≡ true
  pub clear : Clear P left a b c k

-- what was found of the corner b between a and c is so
unfoldable pub Known : (ℕ → Pt) → List ℕ → ℕ → ℕ → ℕ → Finding → Type 0
Known P left a b c Unknown = Unit
Known P left a b c Bent = le (cross2 (P a) (P b) (P c)) +0 ≡ true
Known P left a b c (Blocked k) = Stands P left a b c k

-- what is found, as a word, and what a word says
unfoldable pub word : Finding → ℕ
word Unknown = 0
word Bent = 1
word (Blocked k) = k + 2

unfoldable pub finding : ℕ → Finding
finding zero = Unknown
finding (suc zero) = Bent
finding (suc (suc k)) = Blocked k

-- `memo` has three words for each corner: between which two it was when it was looked at, and what was found
unfoldable pub Sound : (ℕ → Pt) → List ℕ → List ℕ → Type 0
Sound P left memo = (b : ℕ) → Known P left (get_or memo (b * 3) 0) b (get_or memo (b * 3 + 1) 0) (finding (get_or memo (b * 3 + 2) 0))

-- what it has of b between a and c; nothing where it was last looked at between others
unfoldable pub entry : List ℕ → ℕ → ℕ → ℕ → Finding
entry memo a b c = pick (eqb (get_or memo (b * 3) 0) a && eqb (get_or memo (b * 3 + 1) 0) c) (finding (get_or memo (b * 3 + 2) 0)) Unknown

-- ---- the tables: the working order, a flag for each corner, and what is kept

-- a search changes the flags f to f', and what is kept to memo': the flags stay, and what is kept is so
pub record Searched (P : ℕ → Pt) (f f' memo' : List ℕ) : Type 0 where
  pub left : f' ≡ f
  pub sound : Sound P f memo'

-- the corner in the place i of the m corners in the order l goes: l becomes l', and the flags f become f'
pub record Gone (m i : ℕ) (l l' f f' : List ℕ) : Type 0 where
  pub order : take (m - 1) l' ≡ remove i (take m l)
  pub left : f' ≡ set f (get_or (take m l) i 0) 0

-- the corners of the order l are left, and the flags and what is kept speak of them
pub record Held (P : ℕ → Pt) (l left memo : List ℕ) : Type 0 where
  pub tells : Tells left l
  pub once : Once l
  pub sound : Sound P left memo
