-- `fill` leaves what reading leaves: each turn adds the next row of the bundle.
use native.Mathlib.Omega.{arith}
use Rattle.reader.proofs.FillSteps.{fill_start, fill_left, fill_on, fill_end}
use Rattle.reader.proofs.fill.fill.Goals as goal

pub loop-row-init : goal.loop-row-init
loop-row-init c = rw c.new-w.ensures (fill_start _ _ _ _ c.requires.1)

pub next-w-requires : goal.next-w-requires
next-w-requires c = fill_left c.loop-row.invariant c.requires.0 (omega (arith, c.loop-row-test.true))

pub loop-row-preserved : goal.loop-row-preserved
loop-row-preserved c = rw c.new.ensures (fill_on c.loop-row.invariant (omega (arith, c.loop-row-test.true)) c.next-w.ensures)

pub returns : goal.returns
returns c = fill_end c.loop-row.invariant (omega arith) (omega (arith, c.loop-row-test.false))
