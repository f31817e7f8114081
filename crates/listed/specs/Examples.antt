-- The printed case of document 01, a bundle that is refused, an envelope that is refused and how long a first line is, computed.
use Rattle.std.specs.Prelude.{ℕ, ◌≡◌, refl, length}
use mathlib.Core.List.{List, [], ◌∷◌, flatten}
use Rattle.format.specs.Choice.{pick}
use Rattle.format.specs.Answer.{fail, first, rule, then, unless}
use Rattle.format.specs.Header.{big_endian, digits, following, header, header_of, is_long, is_negative_alias, payload_of, shift, width, width_from}
use Rattle.format.specs.Utf8.{bad_at, leads, stop, stop_after, utf8, within}
use Rattle.format.specs.Item.{is_container, is_key, is_name, is_text}
use Rattle.format.specs.Names.{index, index_from, same, same_name}
use Rattle.format.specs.Place.{due, ended as one_less, moved, top}
use Rattle.format.specs.Reading.{after, counts, counts_of, ending, form_of, headed, is_content, is_missing, item, item_of, item_rules, items_of, or_null, reading, run, start}
use Rattle.format.specs.Rows.{row_of, rows}
use Rattle.ascii.specs.Text.{ascii, decimal, decimal_in, ended, labelled}
use Rattle.listed.specs.Text.{bundle_line, envelope_text, first_frame, first_line, row_line, row_lines, rows_of, text}

abbrev bundle : List ℕ
bundle = 0x62 ∷ 0xc1 ∷ 0x64 ∷ 0x25 ∷ 0xc1 ∷ 0x6d ∷ 0x23 ∷ 0x62 ∷ 0xe0 ∷ 0x27 ∷ 0xe1 ∷ 0x24 ∷ []

abbrev Printed : Type 0
Printed =
    (text 1 bundle
    ≡ ascii "bundle 1 rows 10 names 2\n0 8 2 0\n1 11 1 2\n2 6 5 0\n3 11 1 5\n4 6 3 0\n5 8 2 0\n6 11 1 2\n7 6 7 0\n8 11 1 5\n9 6 4 0\n")
    × (text 7 (0xe0 ∷ []) ≡ ascii "bundle 7 refused 4 at 0\n")
    × (envelope_text 12 13 ≡ ascii "envelope 12 refused 13\n")
    × (length (ascii "bundle  refused  at \n") ≡ first_frame)
    × (length (ascii "bundle  rows  names \n") ≡ first_frame)

pub printed : Printed
unfolding pick rule first fail unless then big_endian digits following payload_of header_of is_long is_negative_alias
    width_from width shift header within leads stop_after stop utf8 bad_at is_text is_name is_key is_container same same_name index_from
    index top one_less moved due items_of start form_of is_content item_of is_missing or_null item_rules after headed
    item ending run reading counts_of counts row_of rows ascii decimal_in decimal flatten labelled ended bundle_line
    first_line row_line row_lines rows_of text envelope_text
printed = (refl, refl, refl, refl, refl)
