-- `rows::item::outside` meets its contract: no sum is made. Assumes nothing.
use Rattle.rows.proofs.RowLaws.{far, near}
use Rattle.rows.proofs.item.outside.Goals as goal

pub returns-then-len-start : goal.returns-then-len-start
returns-then-len-start c = far _ _ _ c.if-len-start.true

pub returns : goal.returns
returns c = near _ _ _ c.if-len-start.false
