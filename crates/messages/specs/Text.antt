-- What the programs say on standard error, in ASCII: a label, an option that there is not, and why an envelope is refused.
use Rattle.std.specs.Prelude.{ℕ, ◌+◌, ◌*◌, eqb}
use mathlib.Core.List.{List, [], ◌∷◌, flatten}
use Rattle.format.specs.Choice.{pick}
use Rattle.ascii.specs.Text.{ascii, labelled, max_digits, newline}

-- `NAME: SUBJECT`: the program, and what it speaks of
unfoldable pub label : List ℕ → List ℕ → List ℕ
label name subject = flatten (name ∷ ascii ": " ∷ subject ∷ [])

-- how much stands between them
abbrev pub between : ℕ
between = 2

-- `NAME: OPTION: unknown option, try --help`, a whole line
unfoldable pub unknown_option : List ℕ → List ℕ → List ℕ
unknown_option name option = flatten (label name option ∷ ascii ": unknown option, try --help\n" ∷ [])

-- ---- errors

-- The errors that the programs meet, and what they mean.
abbrev pub meanings : List (ℕ × List ℕ)
meanings =
    (1, ascii "the bundle is over 16384 bytes")
    ∷ (2, ascii "an item or part of it is due, and the bytes have ended")
    ∷ (3, ascii "a string, symbol or key is not UTF-8")
    ∷ (4, ascii "a reference to an entry not yet made")
    ∷ (5, ascii "a key straight after a key")
    ∷ (6, ascii "a container inside 32 open ones")
    ∷ (7, ascii "more than 1024 rows")
    ∷ (8, ascii "more than 256 entries")
    ∷ (10, ascii "the canonical encoding is over 16384 bytes")
    ∷ (12, ascii "the length of the envelope is bad, or bytes are missing")
    ∷ (13, ascii "the version of the envelope is not 1")
    ∷ []

-- what stands beside a number in a table
unfoldable pub beside : ℕ → List (ℕ × List ℕ) → List ℕ
beside n [] = ascii "an error of another kind"
beside n (m ∷ ms) = let later = beside n ms in pick (eqb n m.0) m.1 later

unfoldable pub words : ℕ → List ℕ
words n = beside n meanings

-- ---- refusals

-- `: error X at P`
unfoldable pub error_at : ℕ → ℕ → List ℕ
error_at error place = flatten (labelled (ascii ": error ") error ∷ labelled (ascii " at ") place ∷ [])

-- `: WORDS`, the end of a line
unfoldable pub meaning : ℕ → List ℕ
meaning error = flatten (ascii ": " ∷ words error ∷ (newline ∷ []) ∷ [])

-- `: envelope K: error X at P: WORDS`, the end of a line
unfoldable pub refusal : ℕ → ℕ → ℕ → List ℕ
refusal k error place = flatten (labelled (ascii ": envelope ") k ∷ error_at error place ∷ meaning error ∷ [])

-- ---- how long they are: Examples has the texts

-- without its numbers and words
abbrev pub refusal_frame : ℕ
refusal_frame = 26

abbrev pub max_words : ℕ
max_words = 55

-- No refusal is longer: it has three numbers.
abbrev pub max_refusal : ℕ
max_refusal = refusal_frame + max_words + 3 * max_digits
