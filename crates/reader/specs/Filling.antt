-- The second pass of reading: the first rows of a table become those of a bundle that was checked.
use Rattle.std.specs.Prelude.{ℕ, ◌≤◌, ◌≡◌, List, length}
use Rattle.format.specs.declared.row.Row.{Row}
use Rattle.format.specs.Answer.{stored}
use Rattle.format.specs.Reading.{Options, counts}
use Rattle.format.specs.Rows.{rows}
use Rattle.reader.specs.Answers.{rows_in}

-- n is the count of rows that checking answered, none on an error, and there is room for as many.
pub record Fillable (bs : List ℕ) (old : List Row) (n : ℕ) : Type 0 where
  pub o : Options
  pub count : n ≡ rows_in (counts o bs)
  pub room : n ≤ length old

-- The rows are what reading leaves.
abbrev pub Fills : List ℕ → ℕ → List Row → List Row → Type 0
Fills bs n old new = (o : Options) → n ≡ rows_in (counts o bs) → new ≡ stored old (rows o bs)
