-- What `read_in` promises, and `read` in lenient mode, as their contracts cite it and the laws above them use it.
use Rattle.format.specs.declared.bundle.Bundle.{Bundle}
use Rattle.std.specs.Prelude.{◌≡◌, ℕ, List, length}
use Rattle.format.specs.declared.error.Mode.{Mode}
use Rattle.format.specs.declared.row.Row.{Row}
use Rattle.format.specs.Answer.{Answer, stored}
use Rattle.format.specs.Reading.{counts, options}
use Rattle.format.specs.Rows.{rows}

-- Of bytes, into a table of rows: it answers `r` and leaves `table'`.
pub record Read (mode : Mode) (bytes : List ℕ) (table : List Row) (r : Answer Bundle) (table' : List Row) : Type 0 where
  pub answer : r ≡ counts (options mode (length table)) bytes
  pub filled : table' ≡ stored table (rows (options mode (length table)) bytes)
