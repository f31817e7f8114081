-- If the answer is yes so far, the bytes so far are ASCII. Assumes nothing.
use mathlib.Core.Path.{◌≡◌}
use mathlib.Core.Bool.{true}
use Rattle.utf8.specs.Local.{Ascii}
use Rattle.utf8.proofs.ascii.is_ascii.Given as goal

abbrev pub invariant-loop-b : goal.invariant-loop-b
invariant-loop-b l = l.ascii ≡ true → Ascii l.s 0 l.b-index
