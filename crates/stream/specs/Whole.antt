-- What a filter makes of a whole input, envelope by envelope.
use Rattle.std.specs.Prelude.{ℕ, zero, suc, List, [], ◌∷◌, ◌++◌, length, drop, ◌==◌, Option}
use Rattle.format.specs.Choice.{pick}
use Rattle.format.specs.Answer.{Answer}
use Rattle.format.specs.Envelope.{opening}
use Rattle.stream.specs.declared.state.Refused.{Refused}
use Rattle.stream.specs.declared.state.Stream.{Stream}
use Rattle.stream.specs.State.{noted, numbered}
use Rattle.stream.specs.Run.{Filter}

-- How many envelopes were taken, the first that was refused, and all that was written.
pub record Tally : Type 0 where
  pub count : ℕ
  pub refusal : Option Refused
  pub written : List ℕ

-- One envelope more, by what opening it answers.
abbrev pub added : Filter → Tally → Answer (List ℕ) → Tally
added p t opened =
    let k = numbered t.count in
    record { count = k; refusal = noted t.refusal k (p.step k opened).outcome; written = t.written ++ p.output k opened }

-- The envelopes of an input, so many at most: each begins behind the one before; one that takes nothing is the last.
unfoldable pub processed_in : ℕ → Filter → Tally → List ℕ → Tally
processed_in zero p t bs = t
processed_in (suc n) p t [] = t
processed_in (suc n) p t (b ∷ bs) =
    let opened = opening (b ∷ bs) in
    let used = (p.step (numbered t.count) opened).used in
    pick (used == 0) (added p t opened) (processed_in n p (added p t opened) (drop used (b ∷ bs)))

-- There are no more than bytes.
unfoldable pub processed : Filter → Tally → List ℕ → Tally
processed p t bs = processed_in (length bs) p t bs

-- Of a state, with what was written so far.
abbrev pub tally : Stream → List ℕ → Tally
tally s written = record { count = s.count; refusal = s.refusal; written = written }
