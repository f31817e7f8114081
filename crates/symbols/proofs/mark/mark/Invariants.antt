-- The mark of all bytes is the mark of those left, begun with `h`. Assumes nothing.
use mathlib.Core.Path.{◌≡◌}
use Prim.Native.Nat.{◌<◌}
use lib.ListN.{length}
use Rattle.symbols.specs.Mark.{marks, mark_of}
use Rattle.symbols.proofs.MarkLaws.{mark_on}
use Rattle.symbols.proofs.mark.mark.Given as goal

abbrev pub invariant-loop-rest : goal.invariant-loop-rest
invariant-loop-rest l = (l.h < marks) × (mark_of l.s ≡ mark_on l.rest l.h)

abbrev pub decreases-loop-rest : goal.decreases-loop-rest
decreases-loop-rest l = length l.rest
