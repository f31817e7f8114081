-- `rewriter::putting::put` meets its contract: the loop keeps `Putting`, and each item takes bytes. Assumes nothing.
use mathlib.Core.List.{List}
use Prim.Native.Nat.{ℕ, ◌-◌}
use lib.ListN.{length}
use Rattle.format.specs.Item.{Item}
use Rattle.format.specs.Reading.{State}
use Rattle.rewriter.specs.Putting.{Planning, Put, Putting}
use Rattle.rewriter.proofs.putting.put.Given as goal

abbrev pub invariant-loop-w : goal.invariant-loop-w
invariant-loop-w l = (zs ws : List Item) (u : State) (old : List ℕ) → Planning l.s zs ws u l.plan (length old)
    → Put zs old l.initial.out l.initial.w → Putting l.s zs u old l.out l.w

abbrev pub decreases-loop-w : goal.decreases-loop-w
decreases-loop-w l = length l.s - l.w.at
