-- The windows so far were judged. Assumes nothing.
use mathlib.Core.Path.{◌∙◌}
use Rattle.utf8.proofs.LocalRule.{judging, judge_more, judged}
use Rattle.utf8.proofs.local.block.Goals as goal

pub loop-p3-init : goal.loop-p3-init
loop-p3-init c = (
  rw c.into_iter-p3-iterator.ensures.into_iter_gives c.array_windows-p3-items.ensures.size,
  rw (c.into_iter-p3-iterator.ensures.into_iter_gives, c.array_windows-p3-items.ensures.rest) (judging c.args.s.now),
)

pub loop-p3-preserved : goal.loop-p3-preserved
loop-p3-preserved c =
    let four = c.loop-p3.invariant.0 in
    let (size, window) = c.in-Some.ensures.steps in (
      size ∙ four,
      judge_more _ _ _ _ _ (rw four at window.0) (rw four at window.1) window.2 c.may_follow-pass.ensures _ c.loop-p3.invariant.1,
    )

pub returns : goal.returns
returns c = judged _ _ _ c.loop-p3.invariant.1 (rw c.loop-p3.invariant.0 at c.in-None.ensures.steps.1.0)
