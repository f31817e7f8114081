-- `starts` is the local rule at the first three bytes. Assumes nothing.
use Rattle.utf8.proofs.LocalRule.{started}
use Rattle.utf8.proofs.local.starts.Goals as goal

pub returns : goal.returns
returns c = rw (c.may_follow.ensures, c.may_follow-2.ensures, c.may_follow-3.ensures)
    (started _ c.requires)
