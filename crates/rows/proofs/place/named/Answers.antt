-- `rows::place::named` meets its contract. Assumes nothing.
use mathlib.Core.Path.{sym, ◌∙◌}
use Rattle.format.proofs.Tests.{eqb_yes, eqb_no, pick_yes, pick_no}
use Rattle.rows.specs.Steps.{keyed_by, named_by}
use Rattle.rows.proofs.place.named.Goals as goal

pub returns-then-kind-eq-KEY : goal.returns-then-kind-eq-KEY
unfolding named_by keyed_by
returns-then-kind-eq-KEY c = sym (pick_yes _ _ (eqb_yes c.if-kind-eq-KEY.true))

pub returns : goal.returns
unfolding named_by
returns c = c.value.ensures ∙ sym (pick_no _ _ (eqb_no c.if-kind-eq-KEY.false))
