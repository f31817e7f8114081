-- A bundle written item by item, after other items, as it was planned.
use Rattle.std.specs.Prelude.{ℕ, ◌≤◌, ◌<◌, ◌≡◌, List, [], ◌++◌, length, drop, Ok}
use Rattle.format.specs.Limits.{max_bytes, max_entries, max_rows}
use Rattle.format.specs.Item.{Item}
use Rattle.format.specs.Names.{names_from}
use Rattle.format.specs.Reading.{State, items_of, lenient, reading, run}
use Rattle.format.specs.Canonical.{canonical}
use Rattle.wire.specs.Output.{Puts}
use Rattle.encoder.specs.Plan.{Planned}
use Rattle.rewriter.specs.declared.putting.Spot.{Spot}
use Rattle.rewriter.specs.Measuring.{Mapped}

-- The bundle s reads as u. The items zs come before it and ws after it; all are planned, and fit the buffer.
pub record Planning (s : List ℕ) (zs ws : List Item) (u : State) (plan : List ℕ) (capacity : ℕ) : Type 0 where
  pub short : length s ≤ max_bytes
  pub reads : reading lenient s ≡ Ok u
  pub size : length plan ≡ max_rows
  pub planned : Planned plan ((zs ++ items_of u.found) ++ ws)
  pub few : length (names_from [] ((zs ++ items_of u.found) ++ ws)) ≤ max_entries
  pub fits : length (canonical ((zs ++ items_of u.found) ++ ws)) ≤ capacity

-- The items zs are written.
pub record Put (zs : List Item) (old new : List ℕ) (w : Spot) : Type 0 where
  pub row : length zs ≡ w.row
  pub puts : Puts (canonical zs) w.out old new

-- The items of the bundle up to an offset are written.
pub record Putting (s : List ℕ) (zs : List Item) (u : State) (old new : List ℕ) (w : Spot) : Type 0 where
  pub state : State
  pub offset : state.at ≡ w.at
  pub reads : run lenient state 0 (drop state.at s) ≡ Ok u
  -- its entries are among the names so far
  pub to : List ℕ
  pub width : length to ≡ max_entries
  pub few : length state.entries ≤ max_entries
  pub mapped : Mapped (items_of state.entries) to (names_from [] (zs ++ items_of state.found))
  pub put : Put (zs ++ items_of state.found) old new w

-- One item more.
pub record Onward (s : List ℕ) (zs : List Item) (u : State) (old new : List ℕ) (w r : Spot) : Type 0 where
  pub putting : Putting s zs u old new r
  pub ahead : w.at < r.at

-- What it asks.
pub record Here (s plan new : List ℕ) (w : Spot) : Type 0 where
  pub zs : List Item
  pub ws : List Item
  pub u : State
  pub old : List ℕ
  pub planning : Planning s zs ws u plan (length old)
  pub putting : Putting s zs u old new w

pub record Ready (s plan new : List ℕ) (w : Spot) : Type 0 where
  pub zs : List Item
  pub ws : List Item
  pub u : State
  pub old : List ℕ
  pub planning : Planning s zs ws u plan (length old)
  pub put : Put zs old new w
