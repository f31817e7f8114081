-- `tidy::step::refused` meets its contract. Assumes nothing.
use mathlib.Core.Path.{refl}
use Rattle.tidy.specs.Tidied.{step_of}
use Rattle.tidy.proofs.step.refused.Goals as goal

pub returns : goal.returns
unfolding step_of
returns c = refl
