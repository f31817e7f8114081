-- Items, rows and bytes that the examples speak of.
use Rattle.std.specs.Prelude.{ℕ, zero, suc, List, [], ◌∷◌, ◌++◌}
use Rattle.format.specs.declared.row.Row.{Row}
use Rattle.format.specs.Kind as Kind
use Rattle.format.specs.Item.{Item, held, plain}

-- ---- items and rows

abbrev pub null : Item
null = plain Kind.null 0

abbrev pub integer : ℕ → Item
integer n = plain Kind.positive n

-- −1 − n
abbrev pub negative : ℕ → Item
negative n = plain Kind.negative n

abbrev pub container : ℕ → Item
container n = plain Kind.container n

abbrev pub symbol : List ℕ → Item
symbol bs = held Kind.symbol bs

abbrev pub key : List ℕ → Item
key bs = held Kind.key bs

abbrev pub row : ℕ → ℕ → ℕ → Row
row kind number start = record { kind = kind; number = number; start = start }

-- ---- bytes

abbrev pub d : List ℕ
d = 0x64 ∷ []

abbrev pub m : List ℕ
m = 0x6d ∷ []

-- a job: a deadline d and minutes m
abbrev pub job : List ℕ
job = 0x62 ∷ 0xc1 ∷ 0x64 ∷ 0x25 ∷ 0xc1 ∷ 0x6d ∷ 0x23 ∷ []

-- two jobs, canonical
abbrev pub two_jobs : List ℕ
two_jobs = 0x62 ∷ 0xc1 ∷ 0x64 ∷ 0x25 ∷ 0xc1 ∷ 0x6d ∷ 0x23 ∷ 0x62 ∷ 0xe0 ∷ 0x25 ∷ 0xe1 ∷ 0x23 ∷ []

-- after 24 twice, in two bytes each, an offset is not the number of an item
abbrev pub ahead : List ℕ → List ℕ
ahead bs = 0x38 ∷ 0x18 ∷ 0x38 ∷ 0x18 ∷ bs

-- n times the same
abbrev pub repeated : ℕ → List ℕ → List ℕ
repeated zero bs = []
repeated (suc n) bs = bs ++ repeated n bs

-- ---- 256 names

-- numbers from i on, n of them
abbrev pub upward : ℕ → ℕ → List ℕ
upward i zero = []
upward i (suc n) = i ∷ upward (suc i) n

-- for each of the bytes, a key and as its value the symbol of the same byte
abbrev pub names_of : List ℕ → List ℕ
names_of [] = []
names_of (b ∷ bs) = 0xc1 ∷ b ∷ 0xa1 ∷ b ∷ names_of bs

abbrev pub items_of : List ℕ → List Item
items_of [] = []
items_of (b ∷ bs) = key (b ∷ []) ∷ symbol (b ∷ []) ∷ items_of bs

-- 256 names, in 512 bytes, canonical
abbrev pub names : List ℕ
names = names_of (upward 0 128)

abbrev pub names_items : List Item
names_items = items_of (upward 0 128)
