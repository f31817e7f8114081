-- `rows::name::is_bad` meets its contract. Assumes nothing.
use mathlib.Core.Path.{sym, ◌∙◌}
use Rattle.format.proofs.Tests.{ltb_yes, ltb_no}
use Rattle.rows.proofs.name.is_bad.Goals as goal

pub returns-then-row-gt-MAX_KIND : goal.returns-then-row-gt-MAX_KIND
returns-then-row-gt-MAX_KIND c = rw (ltb_yes c.if-row-gt-MAX_KIND.true)

pub returns : goal.returns
returns c = c.outside.ensures ∙ sym (rw (ltb_no c.if-row-gt-MAX_KIND.false))
