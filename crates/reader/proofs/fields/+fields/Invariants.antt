-- Each turn of the loop is a turn of `Turns`, and the bytes that are left fall, in the loop and at the call.
use mathlib.Core.Path.{◌≡◌}
use mathlib.Core.Bool.{Bool, false}
use Prim.Native.Nat.{ℕ, ◌+◌, ◌-◌, min}
use lib.Dec.{eqb}
use lib.ListN.{length}
use Rattle.format.specs.Limits.{max_rows}
use Rattle.format.specs.Place.{Place}
use Rattle.format.specs.Reading.{Options, State}
use Rattle.items.specs.Judging.{Stands}
use Rattle.reader.specs.Lanes.{Lane, Leads}
use Rattle.reader.proofs.Turns.{cursor, Along}
use Rattle.reader.proofs.fields.+fields.Given as goal

abbrev pub decreases-fields : goal.decreases-fields
decreases-fields l = length l.s.now - l.from

abbrev pub invariant-loop-left : goal.invariant-loop-left
invariant-loop-left l =
    Along l.strict l.s l.entries l.links l.from l.initial.left l.at l.names l.keyed l.left
    × ((Q : ℕ → Bool → Place) (o : Options) (a : State) → o.strict ≡ l.strict → Lane Q l.depth l.initial.left
    → Stands l.s l.initial.entries l.from l.known 0 a → length a.found + l.free ≡ min max_rows o.capacity
    → a.place ≡ Q l.initial.left false
    → Leads o l.s l.entries (cursor l.at l.names l.rows l.keyed) (Q l.left (eqb l.keyed 1)) a)

abbrev pub decreases-loop-left : goal.decreases-loop-left
decreases-loop-left l = length l.s - l.at
