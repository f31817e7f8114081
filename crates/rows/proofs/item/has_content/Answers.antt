-- `rows::item::has_content` meets its contract. Assumes nothing.
use Rattle.rows.proofs.RowLaws.{content_five, content-leb}
use Rattle.rows.proofs.item.has_content.Goals as goal

pub returns-then-kind-eq-BYTES : goal.returns-then-kind-eq-BYTES
returns-then-kind-eq-BYTES c = content_five _ c.if-kind-eq-BYTES.true

pub returns : goal.returns
returns c = content-leb _ c.if-kind-eq-BYTES.false
