-- The windows so far pass. Assumes nothing.
use mathlib.Core.Path.{◌∙◌}
use native.Mathlib.Omega.{arith}
use Rattle.utf8.proofs.LocalRule.{onward, passed, checked}
use Rattle.utf8.proofs.local.blocks.Goals as goal

pub returns-then-not-block : goal.returns-then-not-block
returns-then-not-block c =
    let block = checked c.args.s.now c.min-at.result 16 _ _ (omega arith) (omega arith) c.block.ensures in
    passed c.args.s.now c.loop-a.i c.min-at.result (omega arith) (omega arith) c.loop-a.invariant ∙ block.1 c.if-not-block.true

pub returns-then-last-at : goal.returns-then-last-at
returns-then-last-at c =
    let block = checked c.args.s.now c.min-at.result 16 _ _ (omega arith) (omega arith) c.block.ensures in
    passed c.args.s.now _ _ (omega arith) (omega arith)
    (onward c.args.s.now c.loop-a.i c.min-at.result _ (omega arith) c.loop-a.invariant (block.0 c.if-not-block.false))

pub loop-a-preserved : goal.loop-a-preserved
loop-a-preserved c =
    let block = checked c.args.s.now c.min-at.result 16 _ _ (omega arith) (omega arith) c.block.ensures in
    onward c.args.s.now c.loop-a.i c.min-at.result _ (omega arith) c.loop-a.invariant (block.0 c.if-not-block.false)
