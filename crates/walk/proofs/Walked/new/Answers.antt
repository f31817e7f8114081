-- `Walked::new` stands before the first item. Assumes nothing.
use mathlib.Core.Path.{refl}
use Rattle.walk.proofs.Walked.new.Goals as goal

pub returns : goal.returns
returns c = rw c.new.ensures refl
