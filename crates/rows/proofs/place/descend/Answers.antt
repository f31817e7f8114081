-- `rows::place::descend` meets its contract. Assumes nothing.
use mathlib.Core.Path.{refl}
use Rattle.rows.specs.Steps.{opened_by}
use Rattle.rows.proofs.place.descend.Goals as goal

pub returns : goal.returns
unfolding opened_by
returns c = record {
  state = refl;
  stored = refl;
}
