-- One row judged after others: what is known after those that were taken, and what one more comes to.
use Rattle.std.specs.Prelude.{ℕ, ◌+◌, ◌*◌, ◌≤◌, ◌<◌, ◌≡◌, false, List, [], ◌∷◌, ◌++◌, length, Ok, Err}
use Rattle.format.specs.declared.row.Row.{Row}
use Rattle.format.specs.declared.failure.Failure.{Failure}
use Rattle.format.specs.Answer.{Answer}
use Rattle.format.specs.Limits.{max_bytes, max_rows, max_depth, max_item}
use Rattle.format.specs.Names.{names_from}
use Rattle.format.specs.WellFormed.{All}
use Rattle.format.specs.Rows.{items_at}
use Rattle.format.specs.Writing.{Progress, begin, is_bad, judge}
use Rattle.rows.specs.declared.state.State.{State}
use Rattle.rows.specs.Plan.{plan_size}
use Rattle.rows.specs.Stack.{bottom, Stands}
use Rattle.symbols.specs.declared.names.Names.{Names}
use Rattle.encoder.specs.Plan.{Measured}

-- The rows xs over a text were taken, with a table of their names, and s is the state after them.
pub record After (text : List ℕ) (table : Names) (st plan : List ℕ) (xs : List Row) (s : State) : Type 0 where
  pub over : table.first.now ≡ text
  pub progress : Progress
  pub run : (rest : List Row) → judge text begin (xs ++ rest) ≡ judge text progress rest
  pub fine : All (λ (r : Row). is_bad text r ≡ false) xs
  pub items : progress.items ≡ items_at text xs
  pub names : progress.names ≡ names_from [] progress.items
  pub row : progress.row ≡ s.row
  pub rows : length xs ≡ s.row
  pub small : s.size ≤ s.row * max_item
  pub stands : Stands st s.depth s.left s.keyed s.row progress.place
  pub measured : Measured plan_size table plan progress.items s.size

-- What a state is good for: one row more.
pub record Ready (text st : List ℕ) (s : State) : Type 0 where
  pub short : length text ≤ max_bytes
  pub row : s.row < max_rows
  pub small : s.size ≤ s.row * max_item
  pub stack : length st ≡ max_depth
  pub deep : s.depth ≤ max_depth
  pub top : 2 ≤ bottom st s.depth s.left

-- One row more, from the state s to t: taken, or refused whatever follows.
pub data Next (text : List ℕ) (names : Names) (st plan : List ℕ) (xs : List Row) (r : Row) (s t : State) : Answer Unit → Type 0 where
  taken : After text names st plan (xs ++ (r ∷ [])) t → t.row ≡ s.row + 1 → Next text names st plan xs r s t (Ok tt)
  refused : {f : Failure} → ((rest : List Row) → judge text begin (xs ++ (r ∷ rest)) ≡ Err f)
      → Next text names st plan xs r s t (Err f)

-- A row that is refused leaves what it was lent as it was: x before it, y after.
abbrev pub Kept : {A : Type 0} → A → A → Answer Unit → Type 0
Kept x y (Ok _) = Unit
Kept x y (Err _) = y ≡ x
