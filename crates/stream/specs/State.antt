-- What a program has met so far, and how one step changes it.
use Rattle.std.specs.Prelude.{◌≡◌, ℕ, ◌+◌, ◌%◌, ◌^◌, ◌≤◌, Bool, true, false, List, length, ◌==◌, Option, None, Some, Err, Ok}
use Rattle.format.specs.Choice.{pick}
use Rattle.format.specs.Answer.{Answer}
use Rattle.envelope.specs.Answers.{missing_from}
use Rattle.stream.specs.declared.input.Window.{Window}
use Rattle.stream.specs.declared.state.Refused.{Refused}
use Rattle.stream.specs.declared.state.Stream.{Stream}
use Rattle.stream.specs.declared.state.Step.{Step}
use Rattle.stream.specs.declared.state.Action.{Action}
use Rattle.stream.specs.declared.state.Action.TheVariants.{Read, Take, End}
use Rattle.stream.specs.Window.{Pulls, Within, unread}

-- ---- states

-- Nothing is read yet.
abbrev pub fresh : Window
fresh = record { start = 0; end = 0; ended = false }

-- Before the first envelope.
abbrev pub first : Stream
first = record { window = fresh; filled = 0; count = 0; refusal = None; stopped = false; failed = false; done = false }

-- Before an input, after those that are done with.
abbrev pub begun : Stream → Stream
begun s =
    record { window = fresh; filled = 0; count = s.count; refusal = s.refusal; stopped = s.stopped; failed = s.failed; done = false }

-- The window lies in the input's buffer, and what waits in the output's.
abbrev pub Ready : Stream → ℕ → ℕ → Type 0
Ready s input output = Within s.window input × (s.filled ≤ output)

-- ---- what is to be done next, by whether the input has ended and what is not used yet

unfoldable pub next_of : Bool → List ℕ → Action
next_of ended bs = pick ended (pick (length bs == 0) End Take) (pick (missing_from bs == 0) Take Read)

-- Of a state, over an input's buffer.
abbrev pub action_of : Stream → List ℕ → Action
action_of s input = next_of s.window.ended (unread s.window input)

-- ---- after an envelope

-- The number of the next envelope: one more, as a number of 64 bits.
abbrev pub numbered : ℕ → ℕ
numbered count = (count + 1) % 2 ^ 64

-- The window behind it; one that takes nothing stops the run, and then there is no more input.
unfoldable pub moved_on : Window → ℕ → Window
moved_on w used =
    pick (used == 0)
    (record { start = w.end; end = w.end; ended = true })
    (record { start = w.start + used; end = w.end; ended = w.ended })

-- The first refusal: that of envelope k only where there was none before.
unfoldable pub noted : Option Refused → ℕ → Answer Unit → Option Refused
noted (Some r) k outcome = Some r
noted None k (Ok u) = None
noted None k (Err f) = Some (record { envelope = k; failure = f })

abbrev pub advanced : Stream → Step → Stream
advanced s step =
    record {
      window = moved_on s.window step.used;
      filled = s.filled + step.written;
      count = numbered s.count;
      refusal = noted s.refusal (numbered s.count) step.outcome;
      stopped = (step.used == 0);
      failed = s.failed;
      done = s.done;
    }

-- ---- after a failure

-- The run has ended, whatever waits.
abbrev pub broken : Stream → Stream
broken s =
    record {
      window = s.window;
      filled = s.filled;
      count = s.count;
      refusal = s.refusal;
      stopped = s.stopped;
      failed = true;
      done = true;
    }

-- ---- after writing and reading

-- Nothing waits any more.
abbrev pub emptied : Stream → Window → Bool → Bool → Stream
emptied s w failed done =
    record { window = w; filled = 0; count = s.count; refusal = s.refusal; stopped = s.stopped; failed = failed; done = done }

-- What waited was handed on. Where that failed, the run has ended; nothing to write is no failure.
abbrev pub Flushes : Stream → Stream → Type 0
Flushes s r = (r ≡ emptied s s.window r.failed r.failed) × (s.filled ≡ 0 → r.failed ≡ false)

-- The same, and the run has ended.
abbrev pub Finishes : Stream → Stream → Type 0
Finishes s r = (r ≡ emptied s s.window r.failed true) × (s.filled ≡ 0 → r.failed ≡ false)

-- What waited was handed on, and then the window over the input's buffer was pulled on.
pub record Refills (s : Stream) (old : List ℕ) (r : Stream) (new : List ℕ) : Type 0 where
  pub pulls : Pulls s.window old r.window new
  pub state : r ≡ emptied s r.window r.failed r.failed
