-- Text in ASCII: words, and numbers in decimal.
use Rattle.std.specs.Prelude.{ℕ, zero, suc, ◌+◌, ◌/◌, ◌%◌, ltb}
use Prim.Native.String.{String}
use Prim.Native.String as text
use Prim.Native.Char.{code}
use mathlib.Core.List.{List, [], ◌∷◌, ◌++◌, flatten}
use Rattle.format.specs.Choice.{pick}

-- ---- words

-- The bytes of a text in ASCII.
unfoldable pub ascii : String → List ℕ
ascii text.[] = []
ascii (text.◌∷◌ c s) = code c ∷ ascii s

abbrev pub space : ℕ
space = 32

abbrev pub newline : ℕ
newline = 10

-- ---- numbers

-- n in decimal, in at most so many digits
unfoldable pub decimal_in : ℕ → ℕ → List ℕ
decimal_in zero n = []
decimal_in (suc k) n = let front = decimal_in k (n / 10) in pick (ltb n 10) ((48 + n) ∷ []) (front ++ ((48 + n % 10) ∷ []))

-- The digits of the largest number of 64 bits.
abbrev pub max_digits : ℕ
max_digits = 20

unfoldable pub decimal : ℕ → List ℕ
decimal n = decimal_in max_digits n

-- a word and a number
unfoldable pub labelled : List ℕ → ℕ → List ℕ
labelled word n = flatten (word ∷ decimal n ∷ [])

-- a number and the byte after it
unfoldable pub ended : ℕ → ℕ → List ℕ
ended n end = flatten (decimal n ∷ (end ∷ []) ∷ [])
