-- Examples of reading: each row marked T of document 01's "Messages to try", each kind of item, each refusal with its
-- place, and inputs that two rules apply to.
use Rattle.std.specs.Prelude.{ℕ, ◌^◌, ◌-◌, ◌≡◌, refl, List, [], ◌∷◌, ◌++◌, map, replicate, Ok}
use Rattle.format.specs.declared.row.Row.{Row}
use Rattle.format.specs.declared.error.Mode.TheVariants.{Lenient, Strict}
use Rattle.format.specs.declared.error.Error.TheVariants.{InvalidUtf8, NotCanonical, TooDeep, TooLong, TooManyEntries, TooManyRows, Truncated, UndefinedReference, UnexpectedKey}
use Rattle.format.specs.Choice.{pick}
use Rattle.format.specs.Limits.{max_bytes}
use Rattle.format.specs.Answer.{fail, first, rule, then, unless}
use Rattle.format.specs.Kind as Kind
use Rattle.format.specs.Header.{big_endian, digits, following, header, header_of, is_long, is_negative_alias, payload_of, shift, width, width_from}
use Rattle.format.specs.Utf8.{bad_at, leads, stop, stop_after, utf8, within}
use Rattle.format.specs.Item.{Item, held, is_container, is_key, is_name, is_text, plain}
use Rattle.format.specs.Names.{added, index, index_from, noted, same, same_name}
use Rattle.format.specs.Place.{due, ended, moved, top}
use Rattle.format.specs.Reading.{State, after, counts, counts_of, ending, form_of, headed, is_content, is_missing, item, item_of, item_rules, items, items_of, lenient, options, or_null, reading, run, start, strict}
use Rattle.format.specs.Rows.{row_of, rows}
use Rattle.format.specs.Canonical.{canonical, canonical_from, encoded, full, named}
use Rattle.format.specs.Writing.{fitted}
use Rattle.format.specs.Joining.{canonicalizing}
use Rattle.format.specs.Samples.{ahead, container, d, integer, key, m, names, names_items, negative, null, row, symbol}

-- ---- messages to try

-- three jobs, with d in full a second time
abbrev jobs : List ℕ
jobs = 0x62 ∷ 0xc1 ∷ 0x64 ∷ 0x25 ∷ 0xc1 ∷ 0x6d ∷ 0x23 ∷ 0x62 ∷ 0xc1 ∷ 0x64 ∷ 0x27 ∷ 0xe1 ∷ 0x24 ∷ 0x62 ∷ 0xe0 ∷ 0x29 ∷ 0xe1 ∷ 0x22 ∷ []

abbrev jobs_canonical : List ℕ
jobs_canonical = 0x62 ∷ 0xc1 ∷ 0x64 ∷ 0x25 ∷ 0xc1 ∷ 0x6d ∷ 0x23 ∷ 0x62 ∷ 0xe0 ∷ 0x27 ∷ 0xe1 ∷ 0x24 ∷ 0x62 ∷ 0xe0 ∷ 0x29 ∷ 0xe1 ∷ 0x22 ∷ []

abbrev alias : List ℕ
alias = 0x5f ∷ replicate 8 0xff

abbrev alias_canonical : List ℕ
alias_canonical = 0x5f ∷ replicate 7 0xff ++ (0xfe ∷ [])

abbrev job_of : ℕ → ℕ → List Item → List Item
job_of i j rest = container 2 ∷ key d ∷ integer i ∷ key m ∷ integer j ∷ rest

-- Every row marked T: as it reads, strictly and with its counts where the row says so, and its canonical bytes where it says so.
abbrev pub Messages : Type 0
Messages =
    -- none
    (items lenient [] ≡ Ok [])
    -- 00
    × (items lenient (0x00 ∷ []) ≡ Ok (null ∷ []))
    -- 37; 38 18
    × (items lenient (0x37 ∷ []) ≡ Ok (integer 23 ∷ []))
    × (items lenient (0x38 ∷ 0x18 ∷ []) ≡ Ok (integer 24 ∷ []))
    -- 38 17
    × (items lenient (0x38 ∷ 0x17 ∷ []) ≡ Ok (integer 23 ∷ []))
    × (items strict (0x38 ∷ 0x17 ∷ []) ≡ fail NotCanonical 0)
    -- 58 FF
    × (items lenient (0x58 ∷ 0xff ∷ []) ≡ Ok (negative 255 ∷ []))
    -- 5F and eight FF
    × (items lenient alias ≡ Ok (negative (2 ^ 64 - 2) ∷ []))
    × (canonicalizing alias max_bytes ≡ Ok alias_canonical)
    -- E0
    × (items lenient (0xe0 ∷ []) ≡ fail UndefinedReference 0)
    -- C1 64
    × (items lenient (0xc1 ∷ 0x64 ∷ []) ≡ fail Truncated 2)
    -- C1 64 C1 6D
    × (items lenient (0xc1 ∷ 0x64 ∷ 0xc1 ∷ 0x6d ∷ []) ≡ fail UnexpectedKey 2)
    -- C1 64 A1 64 E0 E1
    × (items lenient (0xc1 ∷ 0x64 ∷ 0xa1 ∷ 0x64 ∷ 0xe0 ∷ 0xe1 ∷ []) ≡ Ok (key d ∷ symbol d ∷ key d ∷ symbol d ∷ []))
    -- 62 C1 64 25 C1 6D 23 62 C1 64 27 E1 24 62 E0 29 E1 22
    × (items lenient jobs ≡ Ok (job_of 5 3 (job_of 7 4 (job_of 9 2 []))))
    × (counts lenient jobs ≡ Ok (record { rows = 15; entries = 3; fields = 3 }))
    × (canonicalizing jobs max_bytes ≡ Ok jobs_canonical)

-- ---- kinds

-- one item of each kind, an empty container, and an empty key with a reference as its value
abbrev all_kinds : List ℕ
all_kinds =
    (0x00 ∷ 0x01 ∷ 0x02 ∷ 0x03 ∷ 0x3f ∷ 0x80 ∷ 0x00 ∷ 0x01 ∷ 0x04 ∷ 0x40 ∷ 0x09 ∷ 0x21 ∷ 0xfb ∷ 0x54 ∷ 0x44 ∷ 0x2d ∷ 0x18 ∷ [])
    ++ (0x07 ∷ 0xff ∷ 0x00 ∷ 0x21 ∷ 0x41 ∷ 0x61 ∷ 0x00 ∷ 0x60 ∷ 0x82 ∷ 0x64 ∷ 0x6d ∷ 0xa1 ∷ 0x64 ∷ 0xc0 ∷ 0xe0 ∷ [])

abbrev all_kinds_items : List Item
all_kinds_items =
    (null ∷ plain Kind.true 0 ∷ plain Kind.false 0 ∷ plain Kind.float32 0x3f800001 ∷ plain Kind.float64 0x400921fb54442d18 ∷ [])
    ++ (held Kind.bytes (0xff ∷ 0x00 ∷ []) ∷ integer 1 ∷ negative 1 ∷ container 1 ∷ null ∷ container 0 ∷ [])
    ++ (held Kind.string (0x64 ∷ 0x6d ∷ []) ∷ symbol d ∷ key [] ∷ symbol d ∷ [])

-- with the numbers of the kinds, and the offsets where content starts
abbrev all_kinds_rows : List Row
all_kinds_rows =
    (row 0 0 0 ∷ row 1 0 0 ∷ row 2 0 0 ∷ row 3 0x3f800001 0 ∷ row 4 0x400921fb54442d18 0 ∷ [])
    ++ (row 5 2 18 ∷ row 6 1 0 ∷ row 7 1 0 ∷ row 8 1 0 ∷ row 0 0 0 ∷ row 8 0 0 ∷ [])
    ++ (row 9 2 26 ∷ row 10 1 29 ∷ row 11 0 31 ∷ row 10 1 29 ∷ [])

-- an integer in one, two, .. eight following bytes
abbrev all_widths : List ℕ
all_widths =
    (0x38 ∷ 1 ∷ 0x39 ∷ 1 ∷ 2 ∷ 0x3a ∷ 1 ∷ 2 ∷ 3 ∷ 0x3b ∷ 1 ∷ 2 ∷ 3 ∷ 4 ∷ 0x3c ∷ 1 ∷ 2 ∷ 3 ∷ 4 ∷ 5 ∷ [])
    ++ (0x3d ∷ 1 ∷ 2 ∷ 3 ∷ 4 ∷ 5 ∷ 6 ∷ 0x3e ∷ 1 ∷ 2 ∷ 3 ∷ 4 ∷ 5 ∷ 6 ∷ 7 ∷ 0x3f ∷ 1 ∷ 2 ∷ 3 ∷ 4 ∷ 5 ∷ 6 ∷ 7 ∷ 8 ∷ [])

abbrev all_widths_numbers : List ℕ
all_widths_numbers =
    0x01 ∷ 0x0102 ∷ 0x010203 ∷ 0x01020304 ∷ 0x0102030405 ∷ 0x010203040506 ∷ 0x01020304050607 ∷ 0x0102030405060708 ∷ []

abbrev pub Kinds : Type 0
Kinds =
    (items lenient all_kinds ≡ Ok all_kinds_items)
    × (counts lenient all_kinds ≡ Ok (record { rows = 15; entries = 2; fields = 13 }))
    × (rows lenient all_kinds ≡ Ok all_kinds_rows)
    -- these bytes are canonical
    × (items strict all_kinds ≡ Ok all_kinds_items)
    × (canonicalizing all_kinds max_bytes ≡ Ok all_kinds)
    × (items lenient all_widths ≡ Ok (map integer all_widths_numbers))
    -- a float's header is never long; the largest integer is no alias
    × (items strict (0x03 ∷ replicate 4 0x00) ≡ Ok (plain Kind.float32 0 ∷ []))
    × (items strict (0x3f ∷ replicate 8 0xff) ≡ Ok (integer (2 ^ 64 - 1) ∷ []))
    -- bytes: 18 in the lead byte, 19 in one byte, in two
    × (items strict (0x17 ∷ replicate 18 0xff) ≡ Ok (held Kind.bytes (replicate 18 0xff) ∷ []))
    × (items strict (0x18 ∷ 0x13 ∷ replicate 19 0xff) ≡ Ok (held Kind.bytes (replicate 19 0xff) ∷ []))
    × (items lenient (0x19 ∷ 0x00 ∷ 0x13 ∷ replicate 19 0xff) ≡ Ok (held Kind.bytes (replicate 19 0xff) ∷ []))
    -- a string of 24
    × (items strict (0x98 ∷ 0x18 ∷ replicate 24 0x64) ≡ Ok (held Kind.string (replicate 24 0x64) ∷ []))

-- ---- refusals

-- Each rule, at an offset that is no count of rows, entries or bytes wherever it can be; and the last input that it does not apply to.
abbrev pub Refusals : Type 0
Refusals =
    -- 1: one byte too long
    (items lenient (replicate 16385 0xe0) ≡ fail TooLong 0)
    × (items lenient (replicate 16384 0xe0) ≡ fail UndefinedReference 0)
    -- 2: a header cut, a float cut, content cut, and at the end a field of a container or a key's value is due
    × (items lenient (ahead (0x3a ∷ 0x00 ∷ 0x00 ∷ [])) ≡ fail Truncated 4)
    × (items lenient (ahead (0x03 ∷ 0x00 ∷ 0x00 ∷ 0x00 ∷ [])) ≡ fail Truncated 4)
    × (items lenient (ahead (0x83 ∷ 0x64 ∷ 0x64 ∷ [])) ≡ fail Truncated 4)
    × (items lenient (ahead (0x62 ∷ 0x00 ∷ [])) ≡ fail Truncated 6)
    × (items lenient (ahead (0xc1 ∷ 0x64 ∷ [])) ≡ fail Truncated 6)
    -- a container's claimed size is not refused by itself
    × (items lenient (0x7f ∷ replicate 8 0xff) ≡ fail Truncated 9)
    -- 3: a string, a symbol, a key; bytes may be any
    × (items lenient (ahead (0x81 ∷ 0xff ∷ [])) ≡ fail InvalidUtf8 5)
    × (items lenient (ahead (0xa1 ∷ 0xff ∷ [])) ≡ fail InvalidUtf8 5)
    × (items lenient (ahead (0xc1 ∷ 0xff ∷ [])) ≡ fail InvalidUtf8 5)
    -- at the first byte that stops the text, not at that which led it, also where the header is long
    × (items lenient (ahead (0x85 ∷ 0x64 ∷ 0xe0 ∷ 0x80 ∷ 0x41 ∷ 0x64 ∷ [])) ≡ fail InvalidUtf8 8)
    × (items lenient (0x82 ∷ 0xe0 ∷ 0x41 ∷ []) ≡ fail InvalidUtf8 2)
    × (items lenient (0x99 ∷ 0x00 ∷ 0x02 ∷ 0x64 ∷ 0xff ∷ []) ≡ fail InvalidUtf8 4)
    -- after the content where that ends too early, whatever comes next
    × (items lenient (0x00 ∷ 0x82 ∷ 0x61 ∷ 0xc3 ∷ 0x00 ∷ []) ≡ fail InvalidUtf8 4)
    × (items strict (0x82 ∷ 0xe0 ∷ 0x80 ∷ 0x80 ∷ []) ≡ fail InvalidUtf8 3)
    × (items lenient (ahead (0x06 ∷ 0xff ∷ [])) ≡ Ok (integer 24 ∷ integer 24 ∷ held Kind.bytes (0xff ∷ []) ∷ []))
    -- 4: one entry is made, and it is the entry 0
    × (items lenient (ahead (0xa1 ∷ 0x64 ∷ 0xe1 ∷ [])) ≡ fail UndefinedReference 6)
    × (items lenient (ahead (0xa1 ∷ 0x64 ∷ 0xe0 ∷ [])) ≡ Ok (integer 24 ∷ integer 24 ∷ symbol d ∷ symbol d ∷ []))
    -- 5: a key after a key, in full and by reference
    × (items lenient (ahead (0xc1 ∷ 0x64 ∷ 0xc1 ∷ 0x6d ∷ [])) ≡ fail UnexpectedKey 6)
    × (items lenient (ahead (0xc1 ∷ 0x64 ∷ 0xe0 ∷ [])) ≡ fail UnexpectedKey 6)
    -- 6: a container inside 32, an empty one too; null inside 32
    × (items lenient (ahead (replicate 33 0x61)) ≡ fail TooDeep 36)
    × (items lenient (ahead (replicate 32 0x61 ++ (0x60 ∷ []))) ≡ fail TooDeep 36)
    × (counts lenient (ahead (replicate 32 0x61 ++ (0x00 ∷ []))) ≡ Ok (record { rows = 35; entries = 0; fields = 3 }))
    -- 7: over the table's rows; 1,024 is the most by `reading_law.within`
    × (items (options Lenient 3) (ahead (0x00 ∷ 0x00 ∷ [])) ≡ fail TooManyRows 5)
    × (items (options Lenient 3) (ahead (0x00 ∷ [])) ≡ Ok (integer 24 ∷ integer 24 ∷ null ∷ []))
    -- 8: a 257th entry, also of a name that has one; a reference makes none
    × (items lenient (ahead (names ++ (0xa0 ∷ []))) ≡ fail TooManyEntries 516)
    × (items lenient (ahead (names ++ (0xa1 ∷ 0x00 ∷ []))) ≡ fail TooManyEntries 516)
    × (counts lenient (names ++ (0xe1 ∷ [])) ≡ Ok (record { rows = 257; entries = 256; fields = 129 }))
    -- 11: a long header, the alias of the least integer, a name in full again
    × (items strict (ahead (0x38 ∷ 0x17 ∷ [])) ≡ fail NotCanonical 4)
    × (items strict (ahead (0x39 ∷ 0x00 ∷ 0xff ∷ [])) ≡ fail NotCanonical 4)
    × (items strict (ahead (0x18 ∷ 0x12 ∷ replicate 18 0xff)) ≡ fail NotCanonical 4)
    × (items strict (ahead alias) ≡ fail NotCanonical 4)
    × (items strict (ahead alias_canonical) ≡ Ok (integer 24 ∷ integer 24 ∷ negative (2 ^ 64 - 2) ∷ []))
    × (items strict (ahead (0xa1 ∷ 0x64 ∷ 0xa1 ∷ 0x64 ∷ [])) ≡ fail NotCanonical 6)
    × (items strict (ahead (0xc1 ∷ 0x64 ∷ 0xa1 ∷ 0x64 ∷ [])) ≡ Ok (integer 24 ∷ integer 24 ∷ key d ∷ symbol d ∷ []))

-- ---- the order of the rules

-- seven items were read, in 300 bytes, and there are 256 entries
abbrev all_entries : State
all_entries =
    record {
      at = 300;
      place = top;
      entries = map (λ (x : Item). record { item = x; start = 0 }) names_items;
      found = replicate 7 (record { item = null; start = 0 });
    }

-- Two rules apply, and the first of them refuses. The order of the list in `item_rules` follows, but for rules of which no item breaks both.
abbrev pub Orders : Type 0
Orders =
    -- a header cut, and no row for it: 2 before 7
    (items (options Lenient 0) (0x38 ∷ []) ≡ fail Truncated 0)
    -- a long reference to nothing: 11 before 4
    × (items strict (0xf8 ∷ 0x00 ∷ []) ≡ fail NotCanonical 0)
    × (items lenient (0xf8 ∷ 0x00 ∷ []) ≡ fail UndefinedReference 0)
    -- a long key after a key: 11 before 5
    × (items strict (0xc1 ∷ 0x64 ∷ 0xd8 ∷ 0x01 ∷ 0x6d ∷ []) ≡ fail NotCanonical 2)
    -- a long container inside 32: 11 before 6
    × (items strict (replicate 32 0x61 ++ (0x78 ∷ 0x01 ∷ [])) ≡ fail NotCanonical 32)
    -- no row for a reference to nothing: 4 before 7
    × (items (options Lenient 0) (0xe0 ∷ []) ≡ fail UndefinedReference 0)
    -- a key after a key, with its content cut or by reference: 5 before 2
    × (items lenient (0xc1 ∷ 0x64 ∷ 0xc5 ∷ []) ≡ fail UnexpectedKey 2)
    × (items lenient (0xc1 ∷ 0x64 ∷ 0xe0 ∷ []) ≡ fail UnexpectedKey 2)
    -- no row for a container inside 32: 6 before 7
    × (items (options Lenient 32) (replicate 33 0x61) ≡ fail TooDeep 32)
    -- cut content that is not UTF-8: 2 before 3
    × (items lenient (0x82 ∷ 0xff ∷ []) ≡ fail Truncated 0)
    -- cut content, of which no byte is left, as of an empty name in the table: 2 before 11
    × (items strict (0xa0 ∷ 0xa1 ∷ []) ≡ fail Truncated 1)
    -- a 257th entry that is not UTF-8: 3 before 8
    × (run lenient all_entries 0 (0xa1 ∷ 0xff ∷ []) ≡ fail InvalidUtf8 301)
    -- a 257th entry for a name in the table: 11 before 8
    × (run strict all_entries 0 (0xa1 ∷ 0x00 ∷ []) ≡ fail NotCanonical 300)
    -- no row for a 257th entry: 8 before 7
    × (run (options Lenient 7) all_entries 0 (0xa0 ∷ []) ≡ fail TooManyEntries 300)
    -- no row for a string that is not UTF-8: 3 before 7
    × (items (options Lenient 0) (0x81 ∷ 0xff ∷ []) ≡ fail InvalidUtf8 1)
    × (items (options Lenient 0) (0x81 ∷ 0x64 ∷ []) ≡ fail TooManyRows 0)
    -- no row for a name in full again: 11 before 7
    × (items (options Strict 1) (0xa1 ∷ 0x64 ∷ 0xa1 ∷ 0x64 ∷ []) ≡ fail NotCanonical 2)

abbrev pub ReadingExamples : Type 0
ReadingExamples = Messages × Kinds × Refusals × Orders

pub reading_examples : ReadingExamples
unfolding pick rule first fail unless then big_endian digits shift following payload_of header_of width_from width header
    is_long is_negative_alias within leads stop_after stop utf8 bad_at is_text is_name is_key is_container same same_name index_from index
    added noted top ended moved due items_of start form_of is_content item_of is_missing or_null item_rules after headed
    item ending run reading items counts_of counts row_of rows full named encoded canonical_from canonical fitted canonicalizing
reading_examples = (
  (refl, refl, refl, refl, refl, refl, refl, refl, refl, refl, refl, refl, refl, refl, refl, refl),
  (refl, refl, refl, refl, refl, refl, refl, refl, refl, refl, refl, refl),
  (refl, refl, refl, refl, refl, refl, refl, refl, refl, refl, refl, refl, refl, refl, refl, refl, refl, refl, refl, refl, refl, refl, refl, refl, refl, refl, refl, refl, refl, refl, refl, refl, refl, refl, refl, refl),
  (refl, refl, refl, refl, refl, refl, refl, refl, refl, refl, refl, refl, refl, refl, refl, refl, refl),
)
