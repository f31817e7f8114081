-- The names of a table, and what noting one comes to: it has an index, it gets one, or there is none left for it.
use Rattle.std.specs.Prelude.{ℕ, ◌+◌, ◌≤◌, ◌<◌, ◌≡◌, List, [], ◌∷◌, ◌++◌, take, set, None, Some}
use Rattle.format.specs.Item.{Item}
use Rattle.format.specs.Limits.{max_entries}
use Rattle.format.specs.Names.{index}
use Rattle.symbols.specs.Entry.{name_in, names_in, start_in}
use Rattle.symbols.specs.declared.names.Names.{Names}
use Rattle.symbols.specs.declared.lookup.Noted.{Noted}
use Rattle.symbols.specs.declared.lookup.Noted.TheVariants as noted

-- Its names, in the order of their indices.
unfoldable pub names_of : Names → List Item
names_of t = names_in t.first.now t.second.now (take t.count t.entries)

-- With no name, over two texts.
pub record Empty (a b : List ℕ) (t : Names) : Type 0 where
  pub first : t.first.now ≡ a
  pub second : t.second.now ≡ b
  pub count : t.count ≡ 0
  pub none : names_of t ≡ []

-- With one entry more, over the same texts.
pub record Grown (t u : Names) (e : ℕ) : Type 0 where
  pub room : t.count < max_entries
  pub first : u.first.now ≡ t.first.now
  pub second : u.second.now ≡ t.second.now
  pub count : u.count ≡ t.count + 1
  pub entries : u.entries ≡ set t.entries t.count e
  pub names : names_of u ≡ names_of t ++ (name_in t.first.now t.second.now e ∷ [])

-- The name x, which begins at start, is the last now.
pub record Entered (t u : Names) (x : Item) (start : ℕ) : Type 0 where
  pub new : index x (names_of t) ≡ None
  pub entry : ℕ
  pub grown : Grown t u entry
  pub named : name_in t.first.now t.second.now entry ≡ x
  pub begins : start_in entry ≡ start

abbrev pub Notes : Names → Names → Item → ℕ → Noted → Type 0
Notes t u x start (noted.Known i) = (index x (names_of t) ≡ Some i) × (i < max_entries) × (u ≡ t)
Notes t u x start noted.Entered = Entered t u x start
Notes t u x start noted.Full = (index x (names_of t) ≡ None) × (max_entries ≤ t.count) × (u ≡ t)
