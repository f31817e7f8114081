-- The law of the walk: over any bundle that reads it gives the rows that reading gives, one by one. proofs/Laws proves it.
use Rattle.std.specs.Prelude.{ℕ, ◌+◌, ◌≤◌, ◌<◌, ◌≡◌, ◌↔◌, List, map, length, Some, slice_get}
use Rattle.format.specs.Limits.{max_entries}
use Rattle.format.specs.Reading.{Options, State, start}
use Rattle.format.specs.Rows.{row_of}
use Rattle.walk.specs.declared.Walked.{Walked}
use Rattle.walk.specs.Walking.{begin, Walks, Onward, Nexts}

-- The table and the walk after i calls of `next`.
pub data Calls (bs : List ℕ) : ℕ → List ℕ → Walked → Type 0 where
  none : {table : List ℕ} → length table ≡ max_entries → Calls bs 0 table begin
  more : {i : ℕ} {table table' : List ℕ} {w r : Walked} → Calls bs i table w → Nexts bs table w table' r → Calls bs (i + 1) table' r

-- Reading has come to a state with i rows and the walk stands there; its row is the i-th, and after the last it stands at the end.
pub record Called (o : Options) (bs : List ℕ) (u : State) (i : ℕ) (table : List ℕ) (w : Walked) : Type 0 where
  pub s : State
  pub walks : Walks o bs u s table w
  pub count : length s.found ≡ i
  pub row : (k : ℕ) → i ≡ k + 1 → slice_get (map row_of u.found) k ≡ Some w.row
  pub end : i ≡ length u.found → w.at ≡ length bs

-- Of a bundle that reads as u.
pub record WalkLaw (o : Options) (bs : List ℕ) (u : State) : Type 0 where
  -- What a loop keeps: it holds before the first item, whatever stands in the table;
  pub first : (table : List ℕ) → length table ≡ max_entries → Walks o bs u start table begin
  -- `next` leads from one item to the next, whose row is the next of the bundle (`Onward`);
  pub row : {s : State} {table : List ℕ} {w r : Walked} → Onward o bs u s table w r
      → slice_get (map row_of u.found) (length s.found) ≡ Some r.row
  -- an item is left as long as a row is;
  pub left : {s : State} {table : List ℕ} {w : Walked} → Walks o bs u s table w
      → (w.at < length bs) ↔ (length s.found < length u.found)
  -- and where none is left all is read, and the walk stands at the end.
  pub last : {s : State} {table : List ℕ} {w : Walked} → Walks o bs u s table w → length bs ≤ w.at → (s ≡ u) × (w.at ≡ length bs)
  -- So after i calls it has the i-th row.
  pub calls : {i : ℕ} {table : List ℕ} {w : Walked} → Calls bs i table w → Called o bs u i table w
