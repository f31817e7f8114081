-- `rewriter::measuring::measure` meets its contract: the loop keeps `Stage`, and each item takes bytes. Assumes nothing.
use mathlib.Core.List.{List}
use Prim.Native.Nat.{◌-◌}
use lib.ListN.{length}
use Rattle.format.specs.Item.{Item}
use Rattle.format.specs.Reading.{State}
use Rattle.rewriter.specs.Measuring.{Begun}
use Rattle.rewriter.proofs.MeasureLoop.{Stage}
use Rattle.rewriter.proofs.measuring.measure.Given as goal

abbrev pub invariant-loop-t : goal.invariant-loop-t
invariant-loop-t l = (zs : List Item) (u : State) → Begun l.fn.names l.side zs u l.fn.plan l.fn.from
    → Stage l.fn.names l.names l.s l.side zs u l.to l.plan l.t

abbrev pub decreases-loop-t : goal.decreases-loop-t
decreases-loop-t l = length l.s - l.t.at
