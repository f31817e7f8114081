-- `rewriter::measuring::measure` meets its contract: the loop keeps `Stage`, and each item takes bytes. Assumes nothing.
use mathlib.Core.Path.{refl}
use native.Mathlib.Omega.{arith}
use Rattle.rewriter.proofs.MeasureLoop.{stage-start, stage_here, stage-next, stage-over, stage-end}
use Rattle.rewriter.proofs.measuring.measure.Goals as goal

pub loop-t-init : goal.loop-t-init
loop-t-init c = λ zs u g. stage-start _ g c.text-s.ensures refl refl refl refl refl

pub item-requires : goal.item-requires
item-requires c =
    (stage_here (c.loop-t.invariant c.requires.zs c.requires.u c.requires.begun), c.loop-t-test.true)

pub loop-t-smaller : goal.loop-t-smaller
loop-t-smaller c =
    let g = c.loop-t.invariant c.requires.zs c.requires.u c.requires.begun in
    let o = rw c.in_ok-item.was at c.item.ensures in
    omega (arith, c.loop-t-test.true, (o c.requires.zs c.requires.u g.bundled g.partway).ahead)

pub loop-t-preserved : goal.loop-t-preserved
loop-t-preserved c =
    λ zs u b.
    let g = c.loop-t.invariant zs u b in
    let o = rw c.in_ok-item.was at c.item.ensures in
    stage-next g (o zs u g.bundled g.partway)

pub returns : goal.returns
returns c = λ zs u b. stage-end (c.loop-t.invariant zs u b) c.loop-t-test.false

pub returns-in_err-item : goal.returns-in_err-item
returns-in_err-item c =
    λ zs u b.
    let g = c.loop-t.invariant zs u b in
    let o = rw c.in_err-item.was at c.item.ensures in
    rw c.from_residual.ensures (stage-over g (o zs u g.bundled g.partway))
