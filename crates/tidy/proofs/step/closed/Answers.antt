-- `tidy::step::closed` meets its contract: what `close` answers. Assumes nothing.
use Rattle.tidy.proofs.TidyLaws.{closed_done, closed-failed}
use Rattle.tidy.proofs.step.closed.Goals as goal

pub returns-in-Err : goal.returns-in-Err
returns-in-Err c =
    closed-failed _ _ _ (rw c.in-Err.is at c.close.ensures) c.refused.ensures

pub returns-in-Ok : goal.returns-in-Ok
returns-in-Ok c =
    closed_done _ _ _ (rw c.in-Ok.is at c.close.ensures)
