-- A whole run: input in pieces is taken as it would be in one. proofs/Laws proves it.
use Rattle.std.specs.Prelude.{◌≡◌, ℕ, ◌≤◌, false, List, [], ◌++◌, length}
use Rattle.format.specs.Envelope.{opening}
use Rattle.stream.specs.declared.state.Stream.{Stream}
use Rattle.stream.specs.Run.{Filter, Runs}
use Rattle.stream.specs.Whole.{processed, tally}

-- What a step takes lies in the bytes.
abbrev pub Takes : Filter → Type 0
Takes p = (k : ℕ) (bs : List ℕ) → (p.step k (opening bs)).used ≤ length bs

pub record WholeRun (p : Filter) (s r : Stream) (run : Runs p s r) : Type 0 where
  -- Where nothing failed, it has handed on just what the filter makes of all that was read, in one piece: and so the
  -- count, and the first refusal.
  pub whole : r.failed ≡ false → tally r run.last.sent ≡ processed p (tally s []) run.last.came
  -- Whatever failed, what it has handed on is the beginning of that.
  pub begins : (rest : List ℕ) × ((processed p (tally s []) run.last.came).written ≡ run.last.sent ++ rest)
