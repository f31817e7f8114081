-- Examples of joining: what is joined, each refusal with its side, and bundles that two rules apply to.
use Rattle.std.specs.Prelude.{ℕ, ◌≡◌, refl, List, [], ◌∷◌, ◌++◌, replicate, Err, Ok}
use Rattle.format.specs.declared.error.Error.{Error}
use Rattle.format.specs.declared.error.Error.TheVariants.{InvalidUtf8, OutputTooLong, TooManyEntries, TooManyRows, Truncated, UndefinedReference}
use Rattle.format.specs.Choice.{pick}
use Rattle.format.specs.Answer.{Failure, fail, first, on_side, rule, then, unless}
use Rattle.format.specs.Header.{big_endian, digits, following, header, header_of, is_long, is_negative_alias, payload_of, shift, width, width_from}
use Rattle.format.specs.Utf8.{bad_at, leads, stop, stop_after, utf8, within}
use Rattle.format.specs.Item.{is_container, is_key, is_name, is_text}
use Rattle.format.specs.Names.{added, index, index_from, names_from, noted, same, same_name}
use Rattle.format.specs.Place.{due, ended, moved, top}
use Rattle.format.specs.Reading.{after, ending, form_of, headed, is_content, is_missing, item, item_of, item_rules, items, items_of, lenient, or_null, reading, run, start}
use Rattle.format.specs.Canonical.{canonical, canonical_from, encoded, full, named}
use Rattle.format.specs.Writing.{fitted}
use Rattle.format.specs.Joining.{canonicalizing, joining, together}
use Rattle.format.specs.Samples.{ahead, job, names, names_items, null, repeated, two_jobs}

-- A failure on one side.
abbrev refused : Error → ℕ → ℕ → Failure
refused error place side = record { error = error; place = place; side = side; row = 0 }

-- a reference to nothing, at offset 5, and a string that is not UTF-8, by its byte at offset 7
abbrev bad_reference : List ℕ
bad_reference = ahead (0x00 ∷ 0xe0 ∷ [])

abbrev bad_string : List ℕ
bad_string = ahead (0x00 ∷ 0x82 ∷ 0x64 ∷ 0xff ∷ [])

abbrev pub JoiningExamples : Type 0
JoiningExamples =
    -- a bundle joined with itself: the names are shared
    (joining lenient job job 12 ≡ Ok two_jobs)
    -- the second bundle's entries get the numbers of their names: its 0 is 1, and its 1 is 0
    × (joining lenient (0xa1 ∷ 0x64 ∷ 0xa1 ∷ 0x6d ∷ []) (0xa1 ∷ 0x6d ∷ 0xa1 ∷ 0x64 ∷ 0xe0 ∷ 0xe1 ∷ []) 99
    ≡ Ok (0xa1 ∷ 0x64 ∷ 0xa1 ∷ 0x6d ∷ 0xe1 ∷ 0xe0 ∷ 0xe1 ∷ 0xe0 ∷ []))
    -- a bundle that does not read, on side 1 and on side 2; of two, the first
    × (joining lenient bad_reference job 99 ≡ Err (refused UndefinedReference 5 1))
    × (joining lenient job bad_string 99 ≡ Err (refused InvalidUtf8 7 2))
    × (joining lenient bad_reference bad_string 99 ≡ Err (refused UndefinedReference 5 1))
    -- what is due at the end of the first is not taken from the second
    × (joining lenient (ahead (0x61 ∷ [])) (0x00 ∷ []) 99 ≡ Err (refused Truncated 5 1))
    -- 8: 257 names, also where there is no capacity; of one name there may be more entries in all
    × (joining lenient names (0xa0 ∷ []) 0 ≡ Err (refused TooManyEntries 0 0))
    × (joining lenient (repeated 200 (0xa1 ∷ 0x64 ∷ [])) (repeated 200 (0xa1 ∷ 0x64 ∷ [])) 999 ≡ Ok (0xa1 ∷ 0x64 ∷ replicate 399 0xe0))
    -- 7, of the items of both: over 1,024 rows, also where their names are too many
    × (together 0 (names_items ++ replicate 769 null) ≡ Err (refused TooManyRows 0 0))
    × (together 1024 (replicate 1024 null) ≡ Ok (replicate 1024 0x00))
    -- 10: a byte more than the capacity
    × (joining lenient job job 11 ≡ Err (refused OutputTooLong 0 0))
    × (canonicalizing job 6 ≡ Err (refused OutputTooLong 0 0))
    -- canonicalizing has no side
    × (canonicalizing bad_string 99 ≡ Err (refused InvalidUtf8 7 0))

pub joining_examples : JoiningExamples
unfolding pick rule first fail unless then on_side big_endian digits shift following payload_of header_of width_from width
    header is_long is_negative_alias within leads stop_after stop utf8 bad_at is_text is_name is_key is_container same same_name index_from
    index added noted names_from top ended moved due items_of start form_of is_content item_of is_missing or_null
    item_rules after headed item ending run reading items full named encoded canonical_from canonical fitted together
    joining canonicalizing
joining_examples = (refl, refl, refl, refl, refl, refl, refl, refl, refl, refl, refl, refl, refl)
