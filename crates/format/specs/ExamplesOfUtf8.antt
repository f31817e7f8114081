-- Examples of UTF-8: every lead byte, every continuation byte at each position, and what the condensed rule takes.
use Rattle.std.specs.Prelude.{ℕ, suc, ◌-◌, ◌≡◌, refl, true, false, List, [], ◌∷◌, map, replicate, Option, None, Some}
use Rattle.format.specs.Choice.{pick}
use Rattle.format.specs.Utf8.{leads, stop, stop_after, utf8, within}
use Rattle.format.specs.Samples.{upward}

-- The places of each byte from lo to hi are the same.
abbrev Each : ℕ → ℕ → (ℕ → List (Option ℕ)) → List (Option ℕ) → Type 0
Each lo hi places results = map places (upward lo (suc hi - lo)) ≡ replicate (suc hi - lo) results

-- A byte with none, one, two, three and four bytes 80 after it.
abbrev leading : ℕ → List (Option ℕ)
leading b = map (λ (k : ℕ). stop (b ∷ replicate k 0x80)) (0 ∷ 1 ∷ 2 ∷ 3 ∷ 4 ∷ [])

-- Document 01's list: a text ends too early with fewer bytes than the lead byte asks for, and stops after them with more.
abbrev Leads : Type 0
Leads =
    Each 0x00 0x7f leading (None ∷ Some 1 ∷ Some 1 ∷ Some 1 ∷ Some 1 ∷ [])
    × Each 0x80 0xc1 leading (replicate 5 (Some 0))
    × Each 0xc2 0xdf leading (Some 1 ∷ None ∷ Some 2 ∷ Some 2 ∷ Some 2 ∷ [])
    × Each 0xe0 0xef leading (Some 1 ∷ Some 2 ∷ None ∷ Some 3 ∷ Some 3 ∷ [])
    × Each 0xf0 0xf4 leading (Some 1 ∷ Some 2 ∷ Some 3 ∷ None ∷ Some 4 ∷ [])
    × Each 0xf5 0xff leading (replicate 5 (Some 0))

-- A byte after the lead byte, at each position.
abbrev continuing : ℕ → List (Option ℕ)
continuing b =
    map stop
    ((0xc2 ∷ b ∷ [])
    ∷ (0xe0 ∷ b ∷ 0x80 ∷ [])
    ∷ (0xe0 ∷ 0x80 ∷ b ∷ [])
    ∷ (0xf0 ∷ b ∷ 0x80 ∷ 0x80 ∷ [])
    ∷ (0xf0 ∷ 0x80 ∷ b ∷ 0x80 ∷ [])
    ∷ (0xf0 ∷ 0x80 ∷ 0x80 ∷ b ∷ [])
    ∷ [])

abbrev at_the_byte : List (Option ℕ)
at_the_byte = map Some (1 ∷ 1 ∷ 2 ∷ 1 ∷ 2 ∷ 3 ∷ [])

abbrev Continuations : Type 0
Continuations =
    Each 0x00 0x7f continuing at_the_byte
    × Each 0x80 0xbf continuing (replicate 6 None)
    × Each 0xc0 0xff continuing at_the_byte

abbrev Texts : Type 0
Texts =
    (stop [] ≡ None)
    × (utf8 [] ≡ true)
    -- characters of each length, one after the other; the last one cut
    × (stop (0x64 ∷ 0xc2 ∷ 0x80 ∷ 0xe0 ∷ 0xa0 ∷ 0x80 ∷ 0xf0 ∷ 0x90 ∷ 0x80 ∷ 0x80 ∷ 0x6d ∷ []) ≡ None)
    × (stop (0x64 ∷ 0xc2 ∷ 0x80 ∷ 0xe0 ∷ 0xa0 ∷ 0x80 ∷ 0xf0 ∷ 0x90 ∷ 0x80 ∷ []) ≡ Some 9)
    × (utf8 (0x64 ∷ 0xc2 ∷ 0x80 ∷ 0xe0 ∷ 0xa0 ∷ 0x80 ∷ 0xf0 ∷ 0x90 ∷ 0x80 ∷ []) ≡ false)
    -- a character that ends early, and another after it: the first byte that is wrong, though more are missing
    × (stop (0xc2 ∷ 0x64 ∷ []) ≡ Some 1)
    × (stop (0xe0 ∷ 0x41 ∷ []) ≡ Some 1)
    × (stop (0xe0 ∷ 0xa0 ∷ 0xc2 ∷ 0x80 ∷ []) ≡ Some 2)
    -- a text that ends too early
    × (stop (0x61 ∷ 0xc3 ∷ []) ≡ Some 2)
    × (stop (0xe0 ∷ 0x80 ∷ []) ≡ Some 2)
    -- a long form, a surrogate, a number over 10FFFF: the condensed rule takes them
    × (stop (0xe0 ∷ 0x80 ∷ 0x80 ∷ []) ≡ None)
    × (stop (0xed ∷ 0xa0 ∷ 0x80 ∷ []) ≡ None)
    × (stop (0xf4 ∷ 0xbf ∷ 0xbf ∷ 0xbf ∷ []) ≡ None)

abbrev pub Utf8Examples : Type 0
Utf8Examples = Leads × Continuations × Texts

pub utf8_examples : Utf8Examples
unfolding pick within leads stop_after stop utf8
utf8_examples = (
  (refl, refl, refl, refl, refl, refl),
  (refl, refl, refl),
  (refl, refl, refl, refl, refl, refl, refl, refl, refl, refl, refl, refl, refl),
)
