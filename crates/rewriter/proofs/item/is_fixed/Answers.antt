-- `rewriter::item::is_fixed` meets its contract: two tests. Assumes nothing.
use Rattle.format.proofs.Tests.{eqb_yes, eqb_no}
use Rattle.rewriter.proofs.item.is_fixed.Goals as goal

pub returns-then-code-ne-BINARY : goal.returns-then-code-ne-BINARY
returns-then-code-ne-BINARY c = rw (eqb_no c.if-code-ne-BINARY.true)

pub returns : goal.returns
returns c = rw (eqb_yes c.if-code-ne-BINARY.false)
