-- `rows::place::value` meets its contract. Assumes nothing.
use Rattle.rows.specs.Steps.{valued}
use Rattle.rows.proofs.place.value.Goals as goal

pub returns : goal.returns
unfolding valued
returns c = rw c.close-to.ensures
