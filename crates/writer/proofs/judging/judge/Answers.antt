-- `judge` comes to the verdict on the rows: each turn judges one more.
use native.Mathlib.Omega.{arith}
use Rattle.std.proofs.lemmas.Result.{err_from_is_err_and}
use Rattle.writer.specs.Verdict.{passed, refused}
use Rattle.writer.proofs.Loop.{after_none, ready, all_passed, stepped, taken_more, refused_more}
use Rattle.writer.proofs.judging.judge.Goals as goal

pub loop-row-init : goal.loop-row-init
loop-row-init c = rw c.begin-s.ensures (after_none c.args.plan.now c.new-names.ensures c.requires.2)

pub step-requires : goal.step-requires
step-requires c = ready _ _ c.loop-row.invariant (omega (arith, c.loop-row-test.true)) c.requires.0 c.requires.1

pub loop-row-preserved : goal.loop-row-preserved
loop-row-preserved c =
    taken_more _ _ (omega (arith, c.loop-row-test.true)) (rw c.in_ok-step.was at (stepped c.step.ensures.next c.loop-row.invariant))

pub returns-in_err-step : goal.returns-in_err-step
returns-in_err-step c =
    let failed = err_from_is_err_and c.from_residual.result c.from_residual.ensures.1 in
    rw (failed.1, failed.2)
    (refused (refused_more _ _ (omega (arith, c.loop-row-test.true)) (rw c.in_err-step.was at (stepped c.step.ensures.next c.loop-row.invariant))))

pub returns : goal.returns
returns c = passed (all_passed _ _ c.loop-row.invariant (omega (arith, c.loop-row-test.false)))
