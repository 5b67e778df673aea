-- FORMAT 14: the digits of a number, the most significant first.
use Rattle.std.specs.Prelude.{ℕ, zero, suc, ◌+◌, ◌-◌, ◌*◌, ◌/◌, ◌%◌, Bool, true, false, ◌&&◌, List, [], ◌∷◌, ◌++◌, ltb}
use Rattle.lists.specs.Loops.{pick}

-- FORMAT 14: the character of a digit below 16: '0' to '9' (48 to 57), then 'a' to 'f' (97 to 102)
unfoldable pub digit_byte : ℕ → ℕ
digit_byte d = pick (ltb d 10) (48 + d) (87 + d)

-- FORMAT 14: the last k digits of n in base b: the last of all, n % b, and before it those of n / b. Where `short` is set, none stands before a number below b, so there is no leading zero, and 0 is one digit
unfoldable pub digits : (short : Bool) → ℕ → ℕ → ℕ → List ℕ
digits short b zero n = []
digits short b (suc k) n = let before = digits short b k (n / b) in pick (short && ltb n b) [] before ++ (digit_byte (n % b) ∷ [])

-- FORMAT 14: a word: eight hexadecimal digits, lower case
unfoldable pub hexadecimal : ℕ → List ℕ
hexadecimal n = digits false 16 8 n

-- FORMAT 14: a number in decimal; ten digits hold every word
unfoldable pub decimal : ℕ → List ℕ
decimal n = digits true 10 10 n

-- ---- read back

-- the digit that a character is
unfoldable pub digit_of : ℕ → ℕ
digit_of c = pick (ltb c 58) (c - 48) (c - 87)

-- the number n, with further digits in base b read from the left
unfoldable pub read_on : ℕ → ℕ → List ℕ → ℕ
read_on b n [] = n
read_on b n (c ∷ cs) = read_on b (n * b + digit_of c) cs
