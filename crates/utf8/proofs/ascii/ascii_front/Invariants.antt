-- The bytes before the rest are ASCII. Assumes nothing.
use lib.ListN.{length}
use Rattle.utf8.proofs.AsciiRuns.{Front}
use Rattle.utf8.proofs.ascii.ascii_front.Given as goal

abbrev pub invariant-loop-step : goal.invariant-loop-step
invariant-loop-step l = Front l.s l.rest

abbrev pub decreases-loop-step : goal.decreases-loop-step
decreases-loop-step l = length l.rest
