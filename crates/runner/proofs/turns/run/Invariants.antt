-- `runner::turns::run` meets its contract: so many turns were taken, one after the other. Assumes nothing.
use Rattle.std.proofs.Common.{length}
use Rattle.stream.specs.State.{Ready}
use Rattle.stream.proofs.Taking.{Going}
use Rattle.runner.proofs.turns.run.Given as goal

abbrev pub invariant-loop : goal.invariant-loop
invariant-loop g l =
    record {
      ready : Ready l.s (length l.input) (length l.output);
      going : Going g.P.Program.filter l.initial.s l.initial.input l.initial.output l.s l.input l.output l.counter;
    }
