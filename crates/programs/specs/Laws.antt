-- What the exit status tells of a run over all inputs. proofs/Laws proves it.
use Rattle.std.specs.Prelude.{◌≡◌, ℕ, suc, false, [], None}
use Rattle.stream.specs.declared.state.Stream.{Stream}
use Rattle.stream.specs.State.{first}
use Rattle.stream.specs.Run.{Filter, Runs}
use Rattle.stream.specs.Whole.{processed, tally}
use Rattle.programs.specs.Exit.{Serving, status_of}

-- So many inputs, from the first envelope on. For each was handed on just what the filter makes of all that was read of it, in one piece,
-- after the inputs before it: and so the count of envelopes, and the first refusal.
pub data Processed (p : Filter) : ℕ → Stream → Type 0 where
  no_input : Processed p 0 first
  one_more : {n : ℕ} {s r : Stream} → Processed p n s → (run : Runs p s r)
      → tally r run.last.sent ≡ processed p (tally s []) run.last.came → Processed p (suc n) r

-- Of a filter that has served so many inputs, `s` being its state at last.
pub record Told (p : Filter) (inputs : ℕ) (s : Stream) (serving : Serving p inputs s) : Type 0 where
  -- Where nothing failed, each input that was served was processed whole.
  pub whole : s.failed ≡ false → Processed p serving.count s
  -- Exit status 0: so was every input, and no envelope was refused.
  pub good : status_of s ≡ 0 → Processed p inputs s × (s.refusal ≡ None)
