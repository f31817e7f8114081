-- The bundle in an envelope, what the envelope takes of the bytes, and how many are missing.
use Rattle.std.specs.Prelude.{ℕ, ◌+◌, ◌-◌, List, [], length, take, ltb, Err, Ok}
use Rattle.format.specs.Choice.{pick}
use Rattle.format.specs.Limits.{max_bytes}
use Rattle.format.specs.Answer.{Answer}
use Rattle.format.specs.Header.{big_endian}
use Rattle.format.specs.Envelope.{overhead}

-- The bundle, or an empty part on an error.
unfoldable pub bundle_in : Answer (List ℕ) → List ℕ
bundle_in (Err f) = []
bundle_in (Ok bs) = bs

-- How many bytes the envelope takes; none where it is refused.
unfoldable pub size_in : Answer (List ℕ) → ℕ
size_in (Err f) = 0
size_in (Ok bs) = overhead + length bs

-- The bytes of the length, which stands before the version.
abbrev pub length_size : ℕ
length_size = overhead - 1

-- What they say.
unfoldable pub length_field : List ℕ → ℕ
length_field bs = big_endian 0 (take length_size bs)

-- How many bytes have to come before opening answers for good. A length that is too large is refused without waiting for them.
unfoldable pub missing_from : List ℕ → ℕ
missing_from bs =
    let n = length_field bs in
    pick (ltb (length bs) length_size) (length_size - length bs) (pick (ltb (1 + max_bytes) n) 0 ((length_size + n) - length bs))
