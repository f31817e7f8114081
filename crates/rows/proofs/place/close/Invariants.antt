-- `rows::place::close` meets its contract: what is closed from here is what is closed from the start. Assumes nothing.
use mathlib.Core.Path.{◌≡◌}
use Prim.Native.Nat.{◌≤◌}
use Rattle.rows.specs.Stack.{bottom, closed}
use Rattle.format.specs.Limits.{max_depth}
use Rattle.rows.proofs.place.close.Given as goal

abbrev pub invariant-loop-l : goal.invariant-loop-l
invariant-loop-l l = (l.d ≤ max_depth) × (2 ≤ bottom l.stack l.d l.l) × (closed l.stack l.d l.l ≡ closed l.stack l.depth l.left)

abbrev pub decreases-loop-l : goal.decreases-loop-l
decreases-loop-l l = l.d
