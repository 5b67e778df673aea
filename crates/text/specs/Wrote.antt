-- A text that is put into a lent buffer.
use Rattle.std.specs.Prelude.{ℕ, ◌+◌, ◌≤◌, ◌≡◌, List, ◌++◌, length, drop}
use Rattle.std.proofs.lemmas.List.Edits.{sets}
use Rattle.text.specs.declared.writer.Writer.{Writer}

-- m is l with the text put in from place at on, as far as l goes; r is the place after the text, at most k further
pub record Wrote (l : List ℕ) (at : ℕ) (text : List ℕ) (k : ℕ) (m : List ℕ) (r : ℕ) : Type 0 where
  pub bytes : m ≡ sets l at text
  pub next : r ≡ at + length text
  pub near : r ≤ at + k

-- y is x with the text put after what it had, at most k further, in the same buffer
pub record Writes (x : Writer) (text : List ℕ) (k : ℕ) (y : Writer) : Type 0 where
  pub same : y.out.ghost_name ≡ x.out.ghost_name
  pub wrote : Wrote x.out.now x.at text k y.out.now y.at

-- m is the buffer l after a text is printed to it, and r the length of the text: where the text fits, m is the text and then what l held; where not, as much of it as l has room for
pub record Printed (l text m : List ℕ) (r : ℕ) : Type 0 where
  pub bytes : m ≡ sets l 0 text
  pub long : r ≡ length text
  pub whole : length text ≤ length l → m ≡ text ++ drop (length text) l
