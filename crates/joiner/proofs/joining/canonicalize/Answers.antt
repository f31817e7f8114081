-- `joiner::joining::canonicalize` meets its contract: merging with the empty bundle. Assumes nothing.
use mathlib.Core.Path.{sym, ◌∙◌}
use Rattle.std.proofs.lemmas.Result.{err_from_is_err_and}
use Rattle.joiner.proofs.JoinLaws.{reads, with_empty, unread-alone, canonicalized}
use Rattle.joiner.proofs.joining.canonicalize.Goals as goal

pub merge-requires : goal.merge-requires
merge-requires c = with_empty (reads _ (sym c.in_ok-b.was ∙ c.check.ensures))

pub returns-in_err-b : goal.returns-in_err-b
returns-in_err-b c =
    let p = err_from_is_err_and c.from_residual.result c.from_residual.ensures.1 in
    rw (p.1, p.2) (unread-alone _ _ (sym c.in_err-b.was ∙ c.check.ensures))

pub returns : goal.returns
returns c = canonicalized (reads _ (sym c.in_ok-b.was ∙ c.check.ensures)) c.merge.ensures
