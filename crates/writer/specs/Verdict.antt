-- All rows judged: where judging begins, how far it has come, and what it comes to.
use Rattle.std.specs.Prelude.{ℕ, ◌≡◌, List, Ok, Err}
use Rattle.format.specs.declared.row.Row.{Row}
use Rattle.format.specs.declared.failure.Failure.{Failure}
use Rattle.format.specs.Answer.{Answer}
use Rattle.format.specs.Writing.{begin, judge}
use Rattle.symbols.specs.declared.names.Names.{Names}
use Rattle.rows.specs.declared.state.State.{State}
use Rattle.rows.specs.Judging.{After}
use Rattle.rows.specs.Stack.{top_fields}

-- The state before the first row.
unfoldable pub begun : State
begun = record { row = 0; depth = 0; left = top_fields; keyed = 0; size = 0 }

-- All of the rows xs passed.
pub record Passed (text plan : List ℕ) (xs : List Row) (s : State) : Type 0 where
  pub names : Names
  pub st : List ℕ
  pub after : After text names st plan xs s

-- What judging the rows xs comes to.
pub data Verdict (text plan : List ℕ) (xs : List Row) : Answer State → Type 0 where
  passed : {s : State} → Passed text plan xs s → Verdict text plan xs (Ok s)
  refused : {f : Failure} → judge text begin xs ≡ Err f → Verdict text plan xs (Err f)
