-- `joiner::joining::join` meets its contract: by what checking both bundles says. Assumes nothing.
use mathlib.Core.Path.{sym, ◌∙◌}
use native.Mathlib.Omega.{arith}
use Rattle.std.proofs.lemmas.Result.{err_from_is_err_and}
use Rattle.joiner.proofs.JoinLaws.{reads, reads-few, both, counts_on, failed_on, unread_first, unread_second}
use Rattle.joiner.proofs.joining.join.Goals as goal

pub merge-requires : goal.merge-requires
merge-requires c =
    both (reads _ (counts_on 1 _ (sym c.in_ok-a.was ∙ c.check_on.ensures)))
    (reads _ (counts_on 2 _ (sym c.in_ok-b.was ∙ c.check_on-2.ensures)))

pub overflow_add-a : goal.overflow_add-a
overflow_add-a c =
    let first = reads _ (counts_on 1 _ (sym c.in_ok-a.was ∙ c.check_on.ensures)) in
    let second = reads _ (counts_on 2 _ (sym c.in_ok-b.was ∙ c.check_on-2.ensures)) in
    omega (arith, reads-few first, reads-few second)

pub returns-in_err-a : goal.returns-in_err-a
returns-in_err-a c =
    let p = err_from_is_err_and c.from_residual.result c.from_residual.ensures.1 in
    let (f, unread, side) = failed_on 1 _ (sym c.in_err-a.was ∙ c.check_on.ensures) in
    rw (p.1, p.2) (unread_first _ _ _ unread side)

pub returns-in_err-b : goal.returns-in_err-b
returns-in_err-b c =
    let p = err_from_is_err_and c.from_residual-in_err-b.result c.from_residual-in_err-b.ensures.1 in
    let first = reads _ (counts_on 1 _ (sym c.in_ok-a.was ∙ c.check_on.ensures)) in
    let (f, unread, side) = failed_on 2 _ (sym c.in_err-b.was ∙ c.check_on-2.ensures) in
    rw (p.1, p.2) (unread_second _ _ _ first unread side)
