-- `check_in` counts with the most rows that there may be. Assumes nothing.
use mathlib.Core.Path.{refl}
use Rattle.reader.proofs.checking.check_in.Goals as goal

pub returns : goal.returns
returns c = c.walk.ensures _ refl
