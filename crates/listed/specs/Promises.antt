-- What the functions promise, as their contracts cite it.
use Rattle.std.specs.Prelude.{◌≡◌, List, ℕ, length, replicate}
use Rattle.format.specs.declared.bundle.Bundle.{Bundle}
use Rattle.format.specs.Limits.{max_rows}
use Rattle.format.specs.Answer.{Answer, outcome_of, stored}
use Rattle.format.specs.Reading.{counts, lenient}
use Rattle.format.specs.Rows.{blank, rows}
use Rattle.wire.specs.Output.{Puts}
use Rattle.listed.specs.declared.table.Table.{Table}
use Rattle.listed.specs.declared.text.Printed.{Printed}
use Rattle.listed.specs.Text.{text, told_within, within}

-- A table of 1,024 rows that a bundle was read into.
pub record Tabled (bytes : List ℕ) (t : Table) : Type 0 where
  pub answer : t.answer ≡ counts lenient bytes
  pub filled : t.rows ≡ stored (replicate max_rows blank) (rows lenient bytes)

-- What is answered of a text of so many bytes, by what reading answered.
abbrev pub printed_of : ℕ → Answer Bundle → Printed
printed_of n r = record { written = n; outcome = outcome_of r }

-- Of the bundle of envelope k, into a buffer that held `old`: it answers `r` and leaves `new`.
pub record Prints (k : ℕ) (bytes old : List ℕ) (r : Printed) (new : List ℕ) : Type 0 where
  pub puts : Puts (within (length old) (text k bytes)) r.written old new
  pub outcome : r.outcome ≡ told_within (length old) (outcome_of (counts lenient bytes))
