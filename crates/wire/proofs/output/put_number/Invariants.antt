-- `put_number` writes the last digit first: what stands from i on, after the digits still to come, is the whole. Assumes nothing.
use mathlib.Core.Path.{◌≡◌}
use mathlib.Core.List.{◌++◌}
use lib.ListN.{drop}
use Rattle.format.specs.Header.{digits}
use Rattle.wire.proofs.output.put_number.Given as goal

abbrev pub invariant-loop-i : goal.invariant-loop-i
invariant-loop-i l = digits l.i l.rest ++ drop l.i l.out ≡ digits l.k l.n ++ drop l.k l.initial.out
