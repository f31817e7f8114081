-- The kinds of items and rows, by document 01's numbers.
use Rattle.std.specs.Prelude.{ℕ}

abbrev pub null : ℕ
null = 0

abbrev pub true : ℕ
true = 1

abbrev pub false : ℕ
false = 2

-- floats, of 4 bytes and of 8
abbrev pub float32 : ℕ
float32 = 3

abbrev pub float64 : ℕ
float64 = 4

abbrev pub bytes : ℕ
bytes = 5

-- integers, of 0 or more and below 0
abbrev pub positive : ℕ
positive = 6

abbrev pub negative : ℕ
negative = 7

abbrev pub container : ℕ
container = 8

abbrev pub string : ℕ
string = 9

abbrev pub symbol : ℕ
symbol = 10

abbrev pub key : ℕ
key = 11
