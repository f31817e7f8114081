-- Examples of envelopes: opening and closing, and each refusal.
use Rattle.std.specs.Prelude.{◌≡◌, refl, [], ◌∷◌, replicate, Ok}
use Rattle.format.specs.declared.error.Error.TheVariants.{InvalidEnvelope, OutputTooLong, TooLong, UnsupportedVersion}
use Rattle.format.specs.Choice.{pick}
use Rattle.format.specs.Answer.{fail}
use Rattle.format.specs.Header.{big_endian, digits}
use Rattle.format.specs.Envelope.{closing, envelope, opening}

abbrev pub EnvelopeExamples : Type 0
EnvelopeExamples =
    -- bytes after the envelope are not looked at
    (opening (0x00 ∷ 0x03 ∷ 0x01 ∷ 0x37 ∷ 0x00 ∷ 0xff ∷ []) ≡ Ok (0x37 ∷ 0x00 ∷ []))
    × (opening (0x00 ∷ 0x01 ∷ 0x01 ∷ []) ≡ Ok [])
    -- 12: no two bytes, a length of 0, a length over 16,385, fewer bytes than it says
    × (opening [] ≡ fail InvalidEnvelope 0)
    × (opening (0x01 ∷ []) ≡ fail InvalidEnvelope 0)
    × (opening (0x00 ∷ 0x00 ∷ 0x01 ∷ []) ≡ fail InvalidEnvelope 0)
    × (opening (0x40 ∷ 0x02 ∷ 0x01 ∷ replicate 16385 0x00) ≡ fail InvalidEnvelope 0)
    × (opening (0x00 ∷ 0x02 ∷ 0x01 ∷ []) ≡ fail InvalidEnvelope 0)
    -- 13: another version, also of the longest envelope; 12 before 13
    × (opening (0x40 ∷ 0x01 ∷ 0x02 ∷ replicate 16384 0x00) ≡ fail UnsupportedVersion 0)
    × (opening (0x00 ∷ 0x02 ∷ 0x02 ∷ 0x00 ∷ []) ≡ fail UnsupportedVersion 0)
    × (opening (0x00 ∷ 0x02 ∷ 0x00 ∷ 0x00 ∷ []) ≡ fail UnsupportedVersion 0)
    × (opening (0x00 ∷ 0x02 ∷ 0x02 ∷ []) ≡ fail InvalidEnvelope 0)
    -- closing takes the bundle unread
    × (closing (0xff ∷ []) 4 ≡ Ok (0x00 ∷ 0x02 ∷ 0x01 ∷ 0xff ∷ []))
    -- 1: a bundle one byte too long, also where there is no capacity; 10: a byte more than the capacity
    × (closing (replicate 16385 0x00) 0 ≡ fail TooLong 0)
    × (closing (replicate 16384 0x00) 16386 ≡ fail OutputTooLong 0)
    × (closing (0xff ∷ []) 3 ≡ fail OutputTooLong 0)

pub envelope_examples : EnvelopeExamples
unfolding pick fail big_endian digits opening envelope closing
envelope_examples = (refl, refl, refl, refl, refl, refl, refl, refl, refl, refl, refl, refl, refl, refl, refl)
