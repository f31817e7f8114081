-- The entries of reading that packed numbers stand for: each is a part of one bundle.
use Rattle.std.specs.Prelude.{ℕ, List, map, take, drop}
use Rattle.format.specs.Reading.{Found}
use Rattle.symbols.specs.Entry.{start_in, name_in}

unfoldable pub found_in : List ℕ → ℕ → Found
found_in s e = record { item = name_in s s e; start = start_in e }

-- The first entries of a table.
unfoldable pub entries_of : List ℕ → List ℕ → ℕ → List Found
entries_of s es names = map (found_in s) (take names es)

-- An item with n bytes of content from a start on.
abbrev pub part_of : List ℕ → ℕ → ℕ → ℕ → Found
part_of s kind start n = record { item = record { kind = kind; number = n; content = take n (drop start s) }; start = start }
