-- A bundle measured item by item, after other items: where each of its entries stands among the names so far, and what is known on the way.
use Rattle.std.specs.Prelude.{ℕ, ◌+◌, ◌*◌, ◌≤◌, ◌<◌, ◌≡◌, true, List, [], ◌++◌, length, drop, get_or, Option, None, Some, slice_get, Ok}
use Rattle.format.specs.Limits.{max_bytes, max_entries, max_item, max_rows}
use Rattle.format.specs.Item.{Item, is_name}
use Rattle.format.specs.Names.{index, names_from}
use Rattle.format.specs.Reading.{State, items_of, lenient, reading, run}
use Rattle.symbols.specs.Entry.{side_of}
use Rattle.symbols.specs.declared.names.Names.{Names}
use Rattle.encoder.specs.Plan.{Measured}
use Rattle.rewriter.specs.declared.measuring.Tally.{Tally}

-- One item more, which ends at an offset.
unfoldable pub tallied : Tally → ℕ → ℕ → ℕ → Tally
tallied t at entries n = record { at = at; entries = entries; row = t.row + 1; size = t.size + n }

-- Entries of a bundle are names, and `to` has their indices among the names so far.
pub record Mapped (olds : List Item) (to : List ℕ) (names : List Item) : Type 0 where
  pub at : (k : ℕ) (x : Item) → slice_get olds k ≡ Some x → (is_name x ≡ true) × (index x names ≡ Some (get_or to k 0))

-- A text of the table.
abbrev pub text_of : Names → ℕ → List ℕ
text_of names side = side_of side names.first.now names.second.now

-- A table over the same texts.
pub record Alike (old new : Names) : Type 0 where
  pub first : new.first.now ≡ old.first.now
  pub second : new.second.now ≡ old.second.now

-- The bundle s, which is a text of the table, reads as u. It comes after the items zs, and there are rows for all.
pub record Bundled (names : Names) (s : List ℕ) (side : ℕ) (zs : List Item) (u : State) : Type 0 where
  pub sides : side < 2
  pub which : text_of names side ≡ s
  pub short : length s ≤ max_bytes
  pub room : length zs + length u.found ≤ max_rows

-- The items of the bundle up to an offset are measured.
pub record Partway (names : Names) (s : List ℕ) (zs : List Item) (u : State) (to plan : List ℕ) (t : Tally) : Type 0 where
  pub state : State
  pub offset : state.at ≡ t.at
  pub reads : run lenient state 0 (drop state.at s) ≡ Ok u
  pub entries : length state.entries ≡ t.entries
  pub few : t.entries ≤ max_entries
  pub width : length to ≡ max_entries
  pub mapped : Mapped (items_of state.entries) to (names_from [] (zs ++ items_of state.found))
  pub row : length (zs ++ items_of state.found) ≡ t.row
  pub small : t.size ≤ t.row * max_item
  pub measured : Measured max_rows names plan (zs ++ items_of state.found) t.size

-- One item more.
pub record Further (old new : Names) (s : List ℕ) (zs : List Item) (u : State) (to plan : List ℕ) (t r : Tally) : Type 0 where
  pub partway : Partway new s zs u to plan r
  pub ahead : t.at < r.at
  pub alike : Alike old new

-- The items zs and those of the bundle have more names than there may be.
abbrev pub Over : List Item → State → Type 0
Over zs u = max_entries < length (names_from [] (zs ++ items_of u.found))

-- What measuring one item comes to. Without an answer too, the table is over the same texts.
abbrev pub Onward : Names → Names → List ℕ → List Item → State → List ℕ → List ℕ → Tally → Tally → Option Unit → Type 0
Onward old new s zs u to plan t r None = Over zs u × Alike old new
Onward old new s zs u to plan t r (Some _) = Further old new s zs u to plan t r

-- What it asks.
pub record Here (names : Names) (s : List ℕ) (side : ℕ) (to plan : List ℕ) (t : Tally) : Type 0 where
  pub zs : List Item
  pub u : State
  pub bundled : Bundled names s side zs u
  pub partway : Partway names s zs u to plan t

-- ---- the whole bundle

-- The items zs are measured.
pub record Tallied (names : Names) (plan : List ℕ) (zs : List Item) (t : Tally) : Type 0 where
  pub row : length zs ≡ t.row
  pub small : t.size ≤ t.row * max_item
  pub measured : Measured max_rows names plan zs t.size

-- The items zs are measured, and a bundle comes next.
pub record Begun (names : Names) (side : ℕ) (zs : List Item) (u : State) (plan : List ℕ) (t : Tally) : Type 0 where
  pub bundled : Bundled names (text_of names side) side zs u
  pub reads : reading lenient (text_of names side) ≡ Ok u
  pub before : Tallied names plan zs t

pub record Ready (names : Names) (side : ℕ) (plan : List ℕ) (t : Tally) : Type 0 where
  pub zs : List Item
  pub u : State
  pub begun : Begun names side zs u plan t

-- What measuring a bundle comes to.
abbrev pub Measures : Names → Names → List Item → State → List ℕ → Option Tally → Type 0
Measures old new zs u plan None = Over zs u × Alike old new
Measures old new zs u plan (Some t) = Tallied new plan (zs ++ items_of u.found) t × Alike old new
