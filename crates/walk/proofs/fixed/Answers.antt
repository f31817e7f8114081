-- `fixed` makes the row of a kind and a number. Assumes nothing.
use mathlib.Core.Path.{refl}
use Rattle.walk.proofs.fixed.Goals as goal

pub returns : goal.returns
returns c = rw c.new.ensures refl
