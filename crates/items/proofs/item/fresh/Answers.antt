-- `fresh` is its definition. Assumes nothing.
use Rattle.format.specs.Choice.{pick}
use Rattle.format.proofs.Tests.{eqb_yes, eqb_no}
use Rattle.items.specs.Judging.{fresh_of}
use Rattle.items.proofs.item.fresh.Goals as goal

pub returns-then-kind-eq-KEY : goal.returns-then-kind-eq-KEY
unfolding fresh_of pick
returns-then-kind-eq-KEY c = rw (eqb_yes c.if-kind-eq-KEY.true)

pub returns : goal.returns
unfolding fresh_of pick
returns c = rw (eqb_no c.if-kind-eq-KEY.false)
