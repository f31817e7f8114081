-- The codes of headers, by the numbers of the published description.
use Rattle.std.specs.Prelude.{ℕ}

-- bytes (the description: Bin), and by `sz` null, true, false and the floats
abbrev pub binary : ℕ
binary = 0

abbrev pub positive : ℕ
positive = 1

abbrev pub negative : ℕ
negative = 2

abbrev pub container : ℕ
container = 3

abbrev pub string : ℕ
string = 4

abbrev pub symbol : ℕ
symbol = 5

abbrev pub key : ℕ
key = 6

abbrev pub reference : ℕ
reference = 7
