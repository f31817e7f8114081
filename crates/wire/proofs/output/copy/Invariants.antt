-- `copy` writes byte by byte what is to come of `from`. Assumes nothing.
use lib.ListN.{drop}
use Rattle.wire.proofs.Wrote.{Wrote}
use Rattle.wire.proofs.output.copy.Given as goal

abbrev pub invariant-loop-i : goal.invariant-loop-i
invariant-loop-i l = Wrote l.from l.initial.out l.out l.i (drop l.i l.from)
