-- The rows before the index are written, and `at` is the offset behind them.
use lib.ListN.{take}
use Rattle.format.specs.Canonical.{canonical}
use Rattle.format.specs.Rows.{items_at}
use Rattle.wire.specs.Output.{Puts}
use Rattle.writer.proofs.putting.put.Given as goal

abbrev pub invariant-loop-i : goal.invariant-loop-i
invariant-loop-i l = Puts (canonical (items_at l.text (take l.i l.rows))) l.at l.initial.out l.out
