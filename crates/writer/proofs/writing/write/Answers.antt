-- `write` judges, decides and writes; what it knows of each call is that it meets its contract.
use mathlib.Core.Path.{sym, ◌∙◌}
use Rattle.std.proofs.lemmas.Result.{err_from_is_err_and}
use Rattle.format.specs.declared.error.Error.TheVariants.{OutputTooLong, TooLong, TooManyRows, Truncated}
use Rattle.writer.proofs.WriteLaws.{fails, passed_of, putting, refused_of, refuses, too_long, writes, writing-due, writing-refused, writing-rows, writing-text}
use Rattle.writer.proofs.writing.write.Goals as goal

pub returns-then-rows-gt-MAX_COUNT : goal.returns-then-rows-gt-MAX_COUNT
returns-then-rows-gt-MAX_COUNT c = fails _ TooManyRows 0 c.fail.ensures (writing-rows _ _ _ c.if-rows-gt-MAX_COUNT.true)

pub returns-then-text-gt-MAX_BYTES : goal.returns-then-text-gt-MAX_BYTES
returns-then-text-gt-MAX_BYTES c = fails _ TooLong 0 c.fail-then-text-gt-MAX_BYTES.ensures
    (writing-text _ _ _ c.if-rows-gt-MAX_COUNT.false c.if-text-gt-MAX_BYTES.true)

pub returns-in_err-s : goal.returns-in_err-s
returns-in_err-s c =
    let failed = err_from_is_err_and c.from_residual.result c.from_residual.ensures.1 in
    rw (failed.1, failed.2)
    (refuses _ (writing-refused _ _ _ c.if-rows-gt-MAX_COUNT.false c.if-text-gt-MAX_BYTES.false _
    (refused_of (rw c.in_err-s.was at c.judge.ensures))))

pub returns-then-is_due : goal.returns-then-is_due
returns-then-is_due c =
    fails _ Truncated _ c.fail-then-is_due.ensures
    (writing-due _ _ _ c.if-rows-gt-MAX_COUNT.false c.if-text-gt-MAX_BYTES.false (passed_of (rw c.in_ok-s.was at c.judge.ensures))
    (sym c.is_due.ensures ∙ c.if-is_due.true))

pub returns-then-is_over : goal.returns-then-is_over
returns-then-is_over c =
    fails _ OutputTooLong 0 c.fail-then-is_over.ensures
    (too_long _ _ _ c.if-rows-gt-MAX_COUNT.false c.if-text-gt-MAX_BYTES.false (passed_of (rw c.in_ok-s.was at c.judge.ensures))
    (sym c.is_due.ensures ∙ c.if-is_due.false) (sym c.is_over.ensures ∙ c.if-is_over.true))

pub put-requires : goal.put-requires
put-requires c =
    putting _ _ _ c.if-rows-gt-MAX_COUNT.false c.if-text-gt-MAX_BYTES.false (passed_of (rw c.in_ok-s.was at c.judge.ensures))
    (sym c.is_due.ensures ∙ c.if-is_due.false) (sym c.is_over.ensures ∙ c.if-is_over.false)

pub returns : goal.returns
returns c =
    writes _ _ _ c.if-rows-gt-MAX_COUNT.false c.if-text-gt-MAX_BYTES.false (passed_of (rw c.in_ok-s.was at c.judge.ensures))
    (sym c.is_due.ensures ∙ c.if-is_due.false) (sym c.is_over.ensures ∙ c.if-is_over.false) c.put.ensures
