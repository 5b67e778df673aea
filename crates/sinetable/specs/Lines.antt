-- FORMAT 16.1: the table of the sine as a text.
use Rattle.std.specs.Prelude.{ℕ, List, [], ◌∷◌, ◌++◌}
use Rattle.lists.specs.Loops.{tab}
use Rattle.lists.specs.Lists.{flat}
use Rattle.text.specs.Digits.{decimal}
use Rattle.series.specs.Series.{entry_of}

-- FORMAT 16.1: entry k in decimal, and a line feed
unfoldable pub entry_line : ℕ → List ℕ
entry_line k = decimal (entry_of k) ++ (10 ∷ [])

-- FORMAT 16.1: the 1,025 entries, from 0 on
unfoldable pub table_text : List ℕ
table_text = flat (tab entry_line 1025 0)
