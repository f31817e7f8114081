-- What a small filter makes of two inputs, computed.
use Rattle.std.specs.Prelude.{◌≡◌, [], ◌∷◌, length, refl, None, Some}
use Rattle.format.specs.declared.error.Error.TheVariants.{InvalidEnvelope}
use Rattle.format.specs.Choice.{pick}
use Rattle.format.specs.Limits.{max_bytes}
use Rattle.format.specs.Answer.{fail, failure, outcome_of, then}
use Rattle.format.specs.Header.{big_endian}
use Rattle.format.specs.Envelope.{opening}
use Rattle.envelope.specs.Answers.{bundle_in, size_in}
use Rattle.stream.specs.State.{first, noted}
use Rattle.stream.specs.Run.{Filter}
use Rattle.stream.specs.Whole.{processed, processed_in, tally}

-- It hands on each bundle as it is, and stops at an envelope that is refused.
abbrev bundles : Filter
bundles =
    record {
      output = λ k opened. bundle_in opened;
      step = λ k opened. record { used = size_in opened; written = length (bundle_in opened); outcome = outcome_of opened };
      most = max_bytes;
    }

abbrev Processed : Type 0
Processed =
    -- two good envelopes, the second of the empty bundle
    (processed bundles (tally first []) (0 ∷ 3 ∷ 1 ∷ 0x25 ∷ 0x23 ∷ 0 ∷ 1 ∷ 1 ∷ [])
    ≡ record { count = 2; refusal = None; written = 0x25 ∷ 0x23 ∷ [] })
    -- a length of 0 after the first: the envelope behind it is not looked at
    × (processed bundles (tally first []) (0 ∷ 2 ∷ 1 ∷ 0x25 ∷ 0 ∷ 0 ∷ 0 ∷ 2 ∷ 1 ∷ 0x23 ∷ [])
    ≡ record { count = 2; refusal = Some (record { envelope = 2; failure = failure InvalidEnvelope 0 }); written = 0x25 ∷ [] })

pub examples : Processed
unfolding pick fail then big_endian opening bundle_in size_in outcome_of noted processed_in processed
examples = (refl, refl)
