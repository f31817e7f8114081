-- An envelope whose bytes come in pieces. proofs/Laws proves it.
use Rattle.std.specs.Prelude.{◌≡◌, ◌≢◌, ℕ, ◌<◌, List, ◌++◌, length}
use Rattle.format.specs.declared.error.Error.TheVariants.{InvalidEnvelope}
use Rattle.format.specs.Answer.{fail}
use Rattle.format.specs.Envelope.{max_envelope, opening}
use Rattle.envelope.specs.Answers.{missing_from}

pub record InPieces (bs : List ℕ) : Type 0 where
  -- where no byte is missing, whatever comes after them changes nothing
  pub settled : missing_from bs ≡ 0 → (more : List ℕ) → opening (bs ++ more) ≡ opening bs
  -- as long as fewer have come than are missing, the envelope is cut
  pub cut : (more : List ℕ) → length more < missing_from bs → opening (bs ++ more) ≡ fail InvalidEnvelope 0
  -- and it is shorter than the longest
  pub short : missing_from bs ≢ 0 → length bs < max_envelope
