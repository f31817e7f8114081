-- `rewriter::item::is_number` meets its contract: a range of codes. Assumes nothing.
use Rattle.format.proofs.Tests.{leb_yes, leb_no}
use Rattle.rewriter.proofs.item.is_number.Goals as goal

pub returns-then-code-lt-POSITIVE : goal.returns-then-code-lt-POSITIVE
returns-then-code-lt-POSITIVE c = rw (leb_no c.if-code-lt-POSITIVE.true)

pub returns : goal.returns
returns c = rw (leb_yes c.if-code-lt-POSITIVE.false)
