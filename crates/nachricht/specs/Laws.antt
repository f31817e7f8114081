-- Two laws of writing and reading together, from what `write` and `read` promise alone. proofs/Laws proves both.
use Rattle.format.specs.Answer.{Answer}
use Rattle.std.specs.Prelude.{◌≡◌, ℕ, ◌≤◌, List, length, take, drop, Ok}
use Rattle.format.specs.declared.bundle.Bundle.{Bundle}
use Rattle.format.specs.declared.error.Mode.{Mode}
use Rattle.format.specs.declared.row.Row.{Row}
use Rattle.format.specs.Item.{Item}
use Rattle.format.specs.WellFormed.{All, Bytes}
use Rattle.format.specs.Reading.{items, options}
use Rattle.format.specs.Rows.{Word, items_at}
use Rattle.format.specs.Canonical.{canonical}
use Rattle.format.specs.Writing.{fitted, writing}
use Rattle.reader.specs.Promises.{Read}
use Rattle.format.specs.Written.{Writes}

-- ---- what is written reads back

-- Bytes that were read into a table: they are a bundle with the items of the rows `rs` over a text.
pub record ReadsBack (rs : List Row) (text bytes : List ℕ) (table : List Row) (r : Answer Bundle) (table' : List Row) : Type 0 where
  -- the answer is good, with as many rows
  pub bundle : Bundle
  pub reads : r ≡ Ok bundle
  pub size : bundle.rows ≡ length rs
  -- the first rows of the table mean over the bytes what `rs` means over the text: their starts may differ, kind, number and content do not
  pub meant : items_at bytes (take (length rs) table') ≡ items_at text rs
  -- the rows after them stay as they were
  pub rest : drop (length rs) table' ≡ drop (length rs) table

-- What `write` writes reads back, by `read`'s own promise, as the rows' items: in both modes, and into any table that has as many rows.
abbrev pub WrittenReadsBack : Type 0
WrittenReadsBack =
    (rs : List Row) (text old new : List ℕ) (n : ℕ) → Bytes text → All Word rs → Writes (writing rs text (length old)) old (Ok n) new
    → (mode : Mode) (table table' : List Row) (r : Answer Bundle) → length rs ≤ length table → Read mode (take n new) table r table'
    → ReadsBack rs text (take n new) table r table'

-- ---- what was read is written canonically

-- A buffer into which the canonical encoding of a bundle's items was written, if it fits.
pub record Rewritten (mode : Mode) (bytes : List ℕ) (table : List Row) (old : List ℕ) (w : Answer ℕ) (new : List ℕ) : Type 0 where
  -- the items that the bytes read as
  pub xs : List Item
  pub meant : items (options mode (length table)) bytes ≡ Ok xs
  -- the answer is the encoding's length, or error 10 where that is over the limit or the buffer; the encoding stands
  -- first in the buffer, and the rest stays as it was, on an error all of it
  pub writes : Writes (fitted (length old) (canonical xs)) old w new

-- Writing the rows that `read` filled over the bundle's own bytes gives its canonical encoding, in whichever mode it was read.
abbrev pub RewritesCanonically : Type 0
RewritesCanonically =
    (mode : Mode) (bytes : List ℕ) (table table' : List Row) (b : Bundle) → Bytes bytes → Read mode bytes table (Ok b) table'
    → (old new : List ℕ) (w : Answer ℕ) → Writes (writing (take b.rows table') bytes (length old)) old w new
    → Rewritten mode bytes table old w new
