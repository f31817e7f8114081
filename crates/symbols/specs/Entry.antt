-- Packed entries. A name's bytes are a part of the first or of the second of two slices. An entry is a number of five
-- fields, from the lowest:
-- the kind, counted from that of symbols; the length; the mark; the side; the start. A field's unit is what one of it counts.
use Rattle.std.specs.Prelude.{ℕ, ◌+◌, ◌-◌, ◌*◌, ◌/◌, ◌%◌, ◌≤◌, ◌<◌, ◌≡◌, List, map, length, take, drop, eqb}
use Rattle.format.specs.declared.row.Row.{Row}
use Rattle.format.specs.Choice.{pick}
use Rattle.format.specs.Item.{Item}
use Rattle.format.specs.Kind as Kind
use Rattle.format.specs.Limits.{max_bytes}
use Rattle.symbols.specs.Mark.{marks, mark_of}

-- ---- the layout

-- how many values a field has
abbrev pub kinds : ℕ
kinds = Kind.key - Kind.symbol + 1

abbrev pub lengths : ℕ
lengths = 2 * max_bytes

abbrev pub sides : ℕ
sides = 2

-- the units
abbrev pub length_unit : ℕ
length_unit = kinds

abbrev pub mark_unit : ℕ
mark_unit = lengths * length_unit

abbrev pub side_unit : ℕ
side_unit = marks * mark_unit

abbrev pub start_unit : ℕ
start_unit = sides * side_unit

-- ---- packing

-- length and kind
abbrev pub shape_of : ℕ → ℕ → ℕ
shape_of kind len = len * length_unit + (kind - Kind.symbol)

-- what a name is compared by before its bytes: mark, length and kind
abbrev pub key_of : ℕ → List ℕ → ℕ
key_of kind content = mark_of content * mark_unit + shape_of kind (length content)

-- a key, with where the bytes of its name stand
abbrev pub entry_of : ℕ → ℕ → ℕ → ℕ
entry_of side start key = (start * sides + side) * side_unit + key

-- with no mark, and the side 0
abbrev pub plain_entry : ℕ → ℕ → ℕ → ℕ
plain_entry kind start len = entry_of 0 start (shape_of kind len)

-- ---- what an entry packs

abbrev pub key_in : ℕ → ℕ
key_in e = e % side_unit

abbrev pub kind_in : ℕ → ℕ
kind_in e = Kind.symbol + e % kinds

abbrev pub length_in : ℕ → ℕ
length_in e = e % mark_unit / length_unit

abbrev pub side_in : ℕ → ℕ
side_in e = e / side_unit % sides

abbrev pub start_in : ℕ → ℕ
start_in e = e / start_unit

abbrev pub row_in : ℕ → Row
row_in e = record { kind = kind_in e; number = length_in e; start = start_in e }

-- an entry with these four
pub record Packed (e start side len kind : ℕ) : Type 0 where
  pub start_is : start_in e ≡ start
  pub side_is : side_in e ≡ side
  pub length_is : length_in e ≡ len
  pub kind_is : kind_in e ≡ kind

-- ---- chains

-- Entries are chained by bucket: the upper bits of the mark, of an entry or a key.
abbrev pub buckets : ℕ
buckets = 512

abbrev pub bucket : ℕ → ℕ
bucket e = e / (side_unit / buckets) % buckets

-- ---- the bytes of a name

-- side 0 is the first, any other the second
unfoldable pub side_of : ℕ → List ℕ → List ℕ → List ℕ
side_of side a b = pick (eqb side 0) a b

unfoldable pub part_in : List ℕ → List ℕ → ℕ → List ℕ
part_in a b e = take (length_in e) (drop (start_in e) (side_of (side_in e) a b))

-- ---- the names of entries

-- A name that is looked for: its length is known by its bytes.
abbrev pub name : ℕ → List ℕ → Item
name kind content = record { kind = kind; number = length content; content = content }

unfoldable pub name_in : List ℕ → List ℕ → ℕ → Item
name_in a b e = record { kind = kind_in e; number = length_in e; content = part_in a b e }

unfoldable pub names_in : List ℕ → List ℕ → List ℕ → List Item
names_in a b = map (name_in a b)

-- An entry that can be compared: its part is there, and its key is its name's.
pub record Sound (a b : List ℕ) (e : ℕ) : Type 0 where
  pub inside : start_in e + length_in e ≤ length (side_of (side_in e) a b)
  pub keyed : key_in e ≡ key_of (kind_in e) (part_in a b e)

-- A name's bytes stand at start of one of two slices.
pub record Part (a b : List ℕ) (kind side start : ℕ) (content : List ℕ) : Type 0 where
  pub low : Kind.symbol ≤ kind
  pub high : kind ≤ Kind.key
  pub sides : side < sides
  pub short : length content ≤ max_bytes
  pub near : start ≤ max_bytes
  pub inside : start + length content ≤ length (side_of side a b)
  pub is : content ≡ take (length content) (drop start (side_of side a b))
