-- Examples of writing: what is written, each refusal with its row, and rows that two rules apply to.
use Rattle.std.specs.Prelude.{ℕ, ◌^◌, ◌-◌, ◌≡◌, refl, List, [], ◌∷◌, ◌++◌, replicate, Err, Ok}
use Rattle.format.specs.declared.row.Row.{Row}
use Rattle.format.specs.declared.error.Error.TheVariants.{InvalidRow, InvalidUtf8, OutputTooLong, TooDeep, TooLong, TooManyEntries, TooManyRows, Truncated, UnexpectedKey}
use Rattle.format.specs.Choice.{pick}
use Rattle.format.specs.Answer.{Answer, counted, fail, failure_beside, first, rule, then, unless}
use Rattle.format.specs.Kind as Kind
use Rattle.format.specs.Header.{digits, following, header, shift, width, width_from}
use Rattle.format.specs.Utf8.{bad_at, leads, stop, stop_after, utf8, within}
use Rattle.format.specs.Item.{has_content, is_container, is_key, is_name, is_text}
use Rattle.format.specs.Names.{added, index, index_from, noted, same, same_name}
use Rattle.format.specs.Place.{due, ended, moved, top}
use Rattle.format.specs.Rows.{content_of, item_at}
use Rattle.format.specs.Canonical.{canonical, canonical_from, encoded, full, named}
use Rattle.format.specs.Writing.{Progress, begin, fitted, is_bad, judge, row_rules, with_item, writing}
use Rattle.format.specs.Samples.{job, names_items, row, upward}

-- ---- rows and texts

-- d, m and a byte that is not UTF-8
abbrev text : List ℕ
text = 0x64 ∷ 0x6d ∷ 0xff ∷ []

abbrev null : Row
null = row Kind.null 0 0

abbrev container : ℕ → Row
container n = row Kind.container n 0

-- keys and symbols of one byte
abbrev key : ℕ → Row
key start = row Kind.key 1 start

abbrev symbol : ℕ → Row
symbol start = row Kind.symbol 1 start

-- 3, at an offset in the text, and the row beside
abbrev bad_text : {A : Type 0} → ℕ → ℕ → Answer A
bad_text offset row = Err (failure_beside InvalidUtf8 offset row)

-- rows after six others
abbrev ahead : List Row → List Row
ahead rs = replicate 6 null ++ rs

-- for each start, a key and as its value the symbol of the same byte
abbrev names_at : List ℕ → List Row
names_at [] = []
names_at (i ∷ is) = key i ∷ symbol i ∷ names_at is

-- seven rows were judged, and there are 256 names
abbrev all_names : Progress
all_names = record { row = 7; place = top; names = names_items; items = [] }

-- ---- what is written

abbrev pub Results : Type 0
Results =
    (writing [] [] 0 ≡ Ok [])
    × (writing (container 2 ∷ key 0 ∷ row Kind.positive 5 0 ∷ key 1 ∷ row Kind.positive 3 0 ∷ []) text 7 ≡ Ok job)
    -- each kind, with the largest number where it has one
    × (writing (null ∷ row Kind.true 0 0 ∷ row Kind.false 0 0 ∷ []) text 3 ≡ Ok (0x00 ∷ 0x01 ∷ 0x02 ∷ []))
    × (writing (row Kind.float32 (2 ^ 32 - 1) 0 ∷ []) text 5 ≡ Ok (0x03 ∷ replicate 4 0xff))
    × (writing (row Kind.float64 (2 ^ 64 - 1) 0 ∷ []) text 9 ≡ Ok (0x04 ∷ replicate 8 0xff))
    × (writing (row Kind.bytes 3 0 ∷ []) text 4 ≡ Ok (0x08 ∷ text))
    × (writing (row Kind.positive (2 ^ 64 - 1) 0 ∷ []) text 9 ≡ Ok (0x3f ∷ replicate 8 0xff))
    × (writing (row Kind.negative (2 ^ 64 - 2) 0 ∷ []) text 9 ≡ Ok (0x5f ∷ replicate 7 0xff ++ (0xfe ∷ [])))
    × (writing (container 0 ∷ row Kind.string 2 0 ∷ []) text 4 ≡ Ok (0x60 ∷ 0x82 ∷ 0x64 ∷ 0x6d ∷ []))
    -- key d and symbol d are two names; each is written in full once
    × (writing (key 0 ∷ symbol 0 ∷ key 0 ∷ symbol 0 ∷ []) text 6 ≡ Ok (0xc1 ∷ 0x64 ∷ 0xa1 ∷ 0x64 ∷ 0xe0 ∷ 0xe1 ∷ []))
    -- content may end where the text ends, empty content too
    × (writing (row Kind.bytes 1 2 ∷ row Kind.string 0 3 ∷ []) text 3 ≡ Ok (0x06 ∷ 0xff ∷ 0x80 ∷ []))

-- ---- refusals

-- Each rule, at a row that is no count of names or open containers wherever it can be; and the last rows that it does not apply to.
abbrev pub Refusals : Type 0
Refusals =
    -- 7 and 1: a row too many, a text one byte too long
    (writing (replicate 1025 (row 12 0 0)) text 9 ≡ fail TooManyRows 0)
    × (writing (replicate 1024 (row 12 0 0)) text 9 ≡ fail InvalidRow 0)
    × (writing [] (replicate 16385 0x00) 9 ≡ fail TooLong 0)
    × (writing [] (replicate 16384 0x00) 9 ≡ Ok [])
    -- 9, clause by clause: the kind
    × (writing (ahead (row 12 0 0 ∷ [])) text 9 ≡ fail InvalidRow 6)
    -- a number
    × (writing (ahead (row Kind.null 1 0 ∷ [])) text 9 ≡ fail InvalidRow 6)
    × (writing (ahead (row Kind.true 1 0 ∷ [])) text 9 ≡ fail InvalidRow 6)
    × (writing (ahead (row Kind.false 1 0 ∷ [])) text 9 ≡ fail InvalidRow 6)
    × (writing (ahead (row Kind.float32 (2 ^ 32) 0 ∷ [])) text 9 ≡ fail InvalidRow 6)
    × (writing (ahead (row Kind.negative (2 ^ 64 - 1) 0 ∷ [])) text 9 ≡ fail InvalidRow 6)
    -- a start
    × (writing (ahead (row Kind.null 0 1 ∷ [])) text 9 ≡ fail InvalidRow 6)
    × (writing (ahead (row Kind.true 0 1 ∷ [])) text 9 ≡ fail InvalidRow 6)
    × (writing (ahead (row Kind.false 0 1 ∷ [])) text 9 ≡ fail InvalidRow 6)
    × (writing (ahead (row Kind.float32 0 1 ∷ [])) text 9 ≡ fail InvalidRow 6)
    × (writing (ahead (row Kind.float64 0 1 ∷ [])) text 9 ≡ fail InvalidRow 6)
    × (writing (ahead (row Kind.positive 0 1 ∷ [])) text 9 ≡ fail InvalidRow 6)
    × (writing (ahead (row Kind.negative 0 1 ∷ [])) text 9 ≡ fail InvalidRow 6)
    × (writing (ahead (row Kind.container 0 1 ∷ [])) text 9 ≡ fail InvalidRow 6)
    -- content that goes over the text's end, as whole numbers, empty content too
    × (writing (ahead (row Kind.bytes 2 2 ∷ [])) text 9 ≡ fail InvalidRow 6)
    × (writing (ahead (row Kind.string 0 4 ∷ [])) text 9 ≡ fail InvalidRow 6)
    × (writing (ahead (row Kind.symbol 4 0 ∷ [])) text 9 ≡ fail InvalidRow 6)
    × (writing (ahead (row Kind.key 1 (2 ^ 64 - 1) ∷ [])) text 9 ≡ fail InvalidRow 6)
    -- 5: a key after a key
    × (writing (ahead (key 0 ∷ key 1 ∷ [])) text 9 ≡ fail UnexpectedKey 7)
    -- 6: a container inside 32, an empty one too; null inside 32
    × (writing (ahead (replicate 33 (container 1))) text 9 ≡ fail TooDeep 38)
    × (writing (ahead (replicate 32 (container 1) ++ (container 0 ∷ []))) text 99 ≡ fail TooDeep 38)
    × (writing (replicate 32 (container 1) ++ (null ∷ [])) text 33 ≡ Ok (replicate 32 0x61 ++ (0x00 ∷ [])))
    -- 3: a string, a symbol, a key, at the offset in the text, with the row beside
    × (writing (ahead (row Kind.string 2 1 ∷ [])) text 9 ≡ bad_text 2 6)
    × (writing (ahead (symbol 2 ∷ [])) text 9 ≡ bad_text 2 6)
    × (writing (ahead (key 2 ∷ [])) text 9 ≡ bad_text 2 6)
    × (writing (null ∷ row Kind.string 2 0 ∷ []) (0x64 ∷ 0xff ∷ []) 9 ≡ bad_text 1 1)
    -- after the content where that ends too early, whatever the text has there
    × (writing (ahead (row Kind.string 2 1 ∷ [])) (0x64 ∷ 0xe0 ∷ 0x80 ∷ 0x80 ∷ []) 9 ≡ bad_text 3 6)
    -- 8: a 257th name; a name that was used is none
    × (writing (null ∷ names_at (upward 0 128) ++ (row Kind.symbol 0 0 ∷ [])) (upward 0 128) 999 ≡ fail TooManyEntries 257)
    × (judge text all_names (row Kind.symbol 0 0 ∷ []) ≡ fail TooManyEntries 7)
    × (judge text all_names (symbol 0 ∷ row 12 0 0 ∷ []) ≡ fail InvalidRow 8)
    -- 2: rows end early, in a container and after a key
    × (writing (ahead (container 2 ∷ null ∷ [])) text 9 ≡ fail Truncated 8)
    × (writing (ahead (key 0 ∷ [])) text 9 ≡ fail Truncated 7)
    -- 10: a byte more than the capacity, or than 16,384
    × (writing (ahead (null ∷ [])) text 6 ≡ fail OutputTooLong 0)
    × (writing (ahead (null ∷ [])) text 7 ≡ Ok (replicate 7 0x00))
    × (fitted 20000 (replicate 16385 0x00) ≡ fail OutputTooLong 0)
    × (counted (fitted 20000 (replicate 16384 0x00)) ≡ Ok 16384)

-- ---- the order of the rules

-- Two rules apply, and the first of them refuses.
abbrev pub Orders : Type 0
Orders =
    -- rows too many over a text too long: 7 before 1
    (writing (replicate 1025 null) (replicate 16385 0x00) 9 ≡ fail TooManyRows 0)
    -- a bad row over a text too long: 1 before 9
    × (writing (ahead (row 12 0 0 ∷ [])) (replicate 16385 0x00) 9 ≡ fail TooLong 0)
    -- a bad key after a key: 9 before 5
    × (writing (ahead (key 0 ∷ key 3 ∷ [])) text 9 ≡ fail InvalidRow 7)
    -- a container with a start inside 32: 9 before 6
    × (writing (replicate 32 (container 1) ++ (row Kind.container 1 1 ∷ [])) text 99 ≡ fail InvalidRow 32)
    -- a key that is not UTF-8 after a key: 5 before 3
    × (writing (ahead (key 0 ∷ key 2 ∷ [])) text 9 ≡ fail UnexpectedKey 7)
    -- a 257th name that is not UTF-8: 3 before 8
    × (judge text all_names (symbol 2 ∷ []) ≡ bad_text 2 7)
    -- the first row that is refused, whatever comes after it
    × (writing (ahead (key 0 ∷ key 1 ∷ row 12 0 0 ∷ [])) text 9 ≡ fail UnexpectedKey 7)
    × (writing (ahead (container 2 ∷ symbol 2 ∷ [])) text 9 ≡ bad_text 2 7)
    -- rows that end early, and no capacity: 2 before 10
    × (writing (ahead (container 1 ∷ [])) text 0 ≡ fail Truncated 7)

abbrev pub WritingExamples : Type 0
WritingExamples = Results × Refusals × Orders

pub writing_examples : WritingExamples
unfolding pick rule first fail unless then counted digits shift following width_from width header within leads
    stop_after stop utf8 bad_at has_content is_text is_name is_key is_container same same_name index_from index added noted top ended moved due
    full named encoded canonical_from canonical fitted content_of item_at is_bad begin with_item row_rules judge writing
writing_examples = (
  (refl, refl, refl, refl, refl, refl, refl, refl, refl, refl, refl),
  (refl, refl, refl, refl, refl, refl, refl, refl, refl, refl, refl, refl, refl, refl, refl, refl, refl, refl, refl, refl, refl, refl, refl, refl, refl, refl, refl, refl, refl, refl, refl, refl, refl, refl, refl, refl, refl, refl, refl, refl),
  (refl, refl, refl, refl, refl, refl, refl, refl, refl),
)
