-- `stream::output::put` meets its contract: where there is nothing to write, no turn comes to its end. Assumes nothing.
use Rattle.std.proofs.Common.{◌≡◌, ◌≤◌, length}
use Rattle.stream.proofs.output.put.Given as goal

abbrev pub invariant-loop : goal.invariant-loop
invariant-loop l = (length l.rest ≤ length l.bytes) × (length l.bytes ≡ 0 → l.counter ≡ 0)
