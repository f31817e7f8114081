-- `rewriter::measuring::after` meets its contract, field by field. Assumes nothing.
use mathlib.Core.Path.{refl}
use Rattle.rewriter.specs.Measuring.{tallied}
use Rattle.rewriter.proofs.measuring.after.Goals as goal

pub returns : goal.returns
unfolding tallied
returns c = refl
