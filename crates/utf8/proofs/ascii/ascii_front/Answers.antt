-- The bytes before the rest are ASCII. Assumes nothing.
use Rattle.utf8.proofs.AsciiRuns.{front_more}
use Rattle.utf8.proofs.ascii.ascii_front.Goals as goal

pub loop-step-preserved : goal.loop-step-preserved
loop-step-preserved c =
    let step = c.in-Some.ensures.cases in
    front_more _ _ _ _ 64 c.loop-step.invariant step.0 step.1 step.2 (c.is_ascii.ensures c.if-not-is_ascii.false)
