-- What `listing` prints for one envelope: the text for its bundle, or that it is refused.
use Rattle.std.specs.Prelude.{ℕ, List, length, Err, Ok}
use Rattle.format.specs.declared.bundle.Bundle.{Bundle}
use Rattle.format.specs.Error.{code_of}
use Rattle.format.specs.Answer.{Answer, outcome_of, then}
use Rattle.format.specs.Reading.{counts, lenient}
use Rattle.envelope.specs.Answers.{size_in}
use Rattle.stream.specs.declared.state.Step.{Step}
use Rattle.stream.specs.Run.{Filter}
use Rattle.listed.specs.Text.{envelope_text, max_text, text}

-- By what opening answers.
unfoldable pub printed : ℕ → Answer (List ℕ) → List ℕ
printed k (Err f) = envelope_text k (code_of f.error)
printed k (Ok bs) = text k bs

-- What reading the envelope answers: its own error comes first.
unfoldable pub reading_of : Answer (List ℕ) → Answer Bundle
reading_of opened = then opened (counts lenient)

-- An envelope that is refused takes nothing, so that the run stops; one whose bundle is refused takes its bytes.
unfoldable pub step_of : ℕ → Answer (List ℕ) → Step
step_of k opened =
    record { used = size_in opened; written = length (printed k opened); outcome = outcome_of (reading_of opened) }

abbrev pub filter : Filter
filter = record { output = printed; step = step_of; most = max_text }
