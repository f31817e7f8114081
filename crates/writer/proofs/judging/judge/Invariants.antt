-- The rows before the index are taken.
use Rattle.std.proofs.Common.{take}
use Rattle.rows.specs.Judging.{After}
use Rattle.writer.proofs.judging.judge.Given as goal

abbrev pub invariant-loop-row : goal.invariant-loop-row
invariant-loop-row l = After l.text l.names l.stack l.plan (take l.row-index l.rows) l.s
