-- `long` is UTF-8: the start, the windows and the end decide. Assumes nothing.
use mathlib.Core.Path.{sym, ◌∙◌}
use native.Mathlib.Omega.{arith}
use Rattle.utf8.proofs.LocalRule.{ended}
use Rattle.utf8.proofs.local.long.Goals as goal

pub returns-then-not-starts : goal.returns-then-not-starts
returns-then-not-starts c = sym (c.starts.ensures ∙ rw c.if-not-starts.true)

pub returns-then-not-blocks : goal.returns-then-not-blocks
returns-then-not-blocks c = sym (c.starts.ensures
    ∙ rw c.if-not-starts.false
    (c.blocks-2.ensures ∙ rw c.if-not-blocks.true))

pub returns : goal.returns
returns c =
    c.may_end.ensures ∙ sym (c.starts.ensures
    ∙ rw c.if-not-starts.false (c.blocks-2.ensures
    ∙ rw c.if-not-blocks.false (ended _ (omega arith))))
