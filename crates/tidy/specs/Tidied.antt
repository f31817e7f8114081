-- What `tidy` makes of one envelope: it is opened, its bundle written canonically, and closed again.
use Rattle.std.specs.Prelude.{◌≡◌, ℕ, List, length, Err, Ok}
use Rattle.format.specs.Limits.{max_bytes}
use Rattle.format.specs.Answer.{Answer, then, stored}
use Rattle.format.specs.Joining.{canonicalizing}
use Rattle.format.specs.Envelope.{closing, max_envelope}
use Rattle.envelope.specs.Answers.{bundle_in as bytesIn, size_in}
use Rattle.stream.specs.declared.state.Step.{Step}
use Rattle.stream.specs.Run.{Filter}

-- By what opening answers.
unfoldable pub tidied : Answer (List ℕ) → Answer (List ℕ)
tidied opened = then opened (λ bs. then (canonicalizing bs max_bytes) (λ c. closing c max_envelope))

-- Of an envelope of so many bytes, by the result: one that is refused takes nothing, so that the run stops.
unfoldable pub step_of : ℕ → Answer (List ℕ) → Step
step_of size (Err f) = record { used = 0; written = 0; outcome = Err f }
step_of size (Ok e) = record { used = size; written = length e; outcome = Ok tt }

abbrev pub filter : Filter
filter = record {
  output = λ k opened. bytesIn (tidied opened);
  step = λ k opened. step_of (size_in opened) (tidied opened);
  most = max_envelope;
}

-- Of a canonical bundle whose envelope took so many bytes, into a buffer that held `old`: it answers `r` and leaves `new`.
pub record Closed (size : ℕ) (bs old : List ℕ) (r : Step) (new : List ℕ) : Type 0 where
  pub step : r ≡ step_of size (closing bs (length old))
  pub buffer : new ≡ stored old (closing bs (length old))
