-- What an answer of the reader counts.
use Rattle.std.specs.Prelude.{ℕ, Ok, Err}
use Rattle.format.specs.declared.bundle.Bundle.{Bundle}
use Rattle.format.specs.Answer.{Answer}

-- How many rows an answer counts: none beside an error.
unfoldable pub rows_in : Answer Bundle → ℕ
rows_in (Err f) = 0
rows_in (Ok b) = b.rows
