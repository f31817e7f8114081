-- Three lines, and how long the texts of a refusal are, computed.
use Rattle.std.specs.Prelude.{◌≡◌, refl, length}
use mathlib.Core.List.{[], ◌∷◌, flatten}
use Rattle.format.specs.Choice.{pick}
use Rattle.ascii.specs.Text.{ascii, decimal, decimal_in, labelled}
use Rattle.messages.specs.Text.{beside, between, error_at, label, max_words, meaning, refusal, refusal_frame, unknown_option, words}

abbrev Said : Type 0
Said =
    (flatten (label (ascii "tidy") (ascii "standard input") ∷ refusal 26 12 0 ∷ [])
    ≡ ascii "tidy: standard input: envelope 26: error 12 at 0: the length of the envelope is bad, or bytes are missing\n")
    × (flatten (label (ascii "listing") (ascii "jobs.nachricht") ∷ refusal 1 5 2 ∷ [])
    ≡ ascii "listing: jobs.nachricht: envelope 1: error 5 at 2: a key straight after a key\n")
    × (unknown_option (ascii "tidy") (ascii "-h") ≡ ascii "tidy: -h: unknown option, try --help\n")
    × (length (label [] []) ≡ between)
    × (length (ascii ": envelope : error  at : \n") ≡ refusal_frame)
    × (length (words 12) ≡ max_words)

pub said : Said
unfolding pick flatten ascii decimal_in decimal labelled label unknown_option beside words error_at meaning refusal
said = (refl, refl, refl, refl, refl, refl)
