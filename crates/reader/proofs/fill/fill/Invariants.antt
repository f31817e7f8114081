-- The rows before the index are filled, and the walk stands behind them.
use Rattle.std.proofs.Common.{length}
use Rattle.reader.proofs.FillSteps.{Filling}
use Rattle.reader.proofs.fill.fill.Given as goal

abbrev pub invariant-loop-row : goal.invariant-loop-row
invariant-loop-row l = Filling l.s (length l.initial.row-items) l.row-index l.table l.w l.initial.row-items l.row-items
