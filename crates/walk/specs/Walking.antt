-- The walk over a bundle: how an offset and a table stand for the state that reading has come to, and what one item more is.
use Rattle.std.specs.Prelude.{ℕ, ◌≤◌, ◌<◌, ◌≡◌, List, [], ◌∷◌, ◌++◌, length, drop, Ok}
use Rattle.format.specs.Limits.{max_bytes, max_entries}
use Rattle.format.specs.Reading.{Found, Options, State, item, run}
use Rattle.format.specs.Rows.{blank, row_of}
use Rattle.symbols.specs.Entries.{entries_of}
use Rattle.walk.specs.declared.Walked.{Walked}

-- Before the first item.
abbrev pub begin : Walked
begin = record { at = 0; entries = 0; row = blank }

-- Reading the bundle has come to the state s and goes on to u. The walk stands where s does, and its table has the entries of s.
pub record Walks (o : Options) (bs : List ℕ) (u s : State) (table : List ℕ) (w : Walked) : Type 0 where
  pub short : length bs ≤ max_bytes
  pub reads : run o s 0 (drop s.at bs) ≡ Ok u
  pub offset : w.at ≡ s.at
  pub within : w.at ≤ length bs
  pub size : length table ≡ max_entries
  pub few : w.entries ≤ max_entries
  pub entries : s.entries ≡ entries_of bs table w.entries

-- One item more: reading comes to the state next, the row is that of the item, and the walk stands there again.
pub record Onward (o : Options) (bs : List ℕ) (u s : State) (table : List ℕ) (w r : Walked) : Type 0 where
  pub next : State
  pub is : item o s (drop s.at bs) ≡ Ok next
  pub x : Found
  pub found : next.found ≡ s.found ++ (x ∷ [])
  pub row : r.row ≡ row_of x
  pub walks : Walks o bs u next table r
  pub ahead : w.at < r.at

-- ---- what `next` asks and promises

-- An item is left.
pub record Left (bs table : List ℕ) (w : Walked) : Type 0 where
  pub o : Options
  pub u : State
  pub s : State
  pub walks : Walks o bs u s table w
  pub left : w.at < length bs

-- From a table and a walk to those after one item more.
abbrev pub Nexts : List ℕ → List ℕ → Walked → List ℕ → Walked → Type 0
Nexts bs table w table' r = (o : Options) (u s : State) → Walks o bs u s table w → Onward o bs u s table' w r
