-- The text stops being good where what is left does, with `due` continuation bytes first. Assumes nothing.
use mathlib.Core.Path.{◌≡◌}
use lib.ListN.{drop}
use Rattle.format.specs.Utf8.{stop, stop_after}
use Rattle.utf8.proofs.bytewise.scan.Given as goal

abbrev pub invariant-loop-at : goal.invariant-loop-at
invariant-loop-at l = stop l.s ≡ stop_after l.due l.at (drop l.at l.s)
