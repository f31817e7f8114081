-- The text of `listing` (document 01, "Envelope and programs"), in ASCII: what is printed for one envelope.
use Rattle.std.specs.Prelude.{ℕ, suc, ◌+◌, ◌*◌, ltb, Err, Ok}
use mathlib.Core.List.{List, [], ◌∷◌, flatten}
use Rattle.format.specs.declared.bundle.Bundle.{Bundle}
use Rattle.format.specs.declared.row.Row.{Row}
use Rattle.format.specs.Choice.{pick}
use Rattle.format.specs.Error.{code_of}
use Rattle.format.specs.Limits.{max_rows}
use Rattle.format.specs.Answer.{Answer}
use Rattle.format.specs.Reading.{counts, lenient}
use Rattle.format.specs.Rows.{rows}
use Rattle.ascii.specs.Text.{ascii, ended, labelled, max_digits, newline, space}

-- ---- words

abbrev pub bundle_word : List ℕ
bundle_word = ascii "bundle "

abbrev pub envelope_word : List ℕ
envelope_word = ascii "envelope "

abbrev pub rows_word : List ℕ
rows_word = ascii " rows "

abbrev pub names_word : List ℕ
names_word = ascii " names "

abbrev pub refused_word : List ℕ
refused_word = ascii " refused "

abbrev pub at_word : List ℕ
at_word = ascii " at "

-- ---- lines

-- `bundle K`, and two words, each with its number
unfoldable pub bundle_line : ℕ → List ℕ → ℕ → List ℕ → ℕ → List ℕ
bundle_line k word n other m = flatten (labelled bundle_word k ∷ labelled word n ∷ labelled other m ∷ (newline ∷ []) ∷ [])

-- `bundle K rows R names N`, or `bundle K refused X at P`
unfoldable pub first_line : ℕ → Answer Bundle → List ℕ
first_line k (Ok b) = bundle_line k rows_word b.rows names_word b.entries
first_line k (Err r) = bundle_line k refused_word (code_of r.error) at_word r.place

-- a row: its index, kind, number and start
unfoldable pub row_line : ℕ → Row → List ℕ
row_line i r = flatten (ended i space ∷ ended r.kind space ∷ ended r.number space ∷ ended r.start newline ∷ [])

-- the lines of rows, the first of which has index i
unfoldable pub row_lines : ℕ → List Row → List (List ℕ)
row_lines i [] = []
row_lines i (r ∷ rs) = row_line i r ∷ row_lines (suc i) rs

-- the rows that are printed; none of a bundle that is refused
unfoldable pub rows_of : Answer (List Row) → List Row
rows_of (Ok rs) = rs
rows_of (Err r) = []

-- ---- what is printed

-- for the bundle of envelope k
unfoldable pub text : ℕ → List ℕ → List ℕ
text k bs = flatten (first_line k (counts lenient bs) ∷ row_lines 0 (rows_of (rows lenient bs)))

-- for envelope k, refused with a number: `envelope K refused X`
unfoldable pub envelope_text : ℕ → ℕ → List ℕ
envelope_text k x = flatten (labelled envelope_word k ∷ labelled refused_word x ∷ (newline ∷ []) ∷ [])

-- ---- what is written into a buffer

-- a first line without its numbers, of which it has three; Examples has the texts
abbrev pub first_frame : ℕ
first_frame = 21

abbrev pub max_first : ℕ
max_first = first_frame + 3 * max_digits

-- a row: four numbers, with the byte after each
abbrev pub max_row : ℕ
max_row = 4 * (max_digits + 1)

-- No text is longer.
abbrev pub max_text : ℕ
max_text = max_first + max_rows * max_row

-- Of a buffer with so many bytes: a text is written where any would fit, and else nothing.
unfoldable pub within : ℕ → List ℕ → List ℕ
within capacity bs = pick (ltb capacity max_text) [] bs

-- So for what became of the bundle: else nothing is told.
unfoldable pub told_within : ℕ → Answer Unit → Answer Unit
told_within capacity outcome = pick (ltb capacity max_text) (Ok tt) outcome
