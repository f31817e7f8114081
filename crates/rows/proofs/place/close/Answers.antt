-- `rows::place::close` meets its contract: what is closed from here is what is closed from the start. Assumes nothing.
use mathlib.Core.Path.{refl, sym, ◌∙◌}
use native.Mathlib.Omega.{arith}
use Rattle.rows.proofs.StackLaws.{top_left, close_out, bottom_out, close_here}
use Rattle.rows.proofs.place.close.Goals as goal

pub loop-l-init : goal.loop-l-init
loop-l-init c = (c.requires.1, c.requires.2, refl)

pub overflow_sub-d : goal.overflow_sub-d
overflow_sub-d c = omega (arith, top_left _ _ _ c.loop-l-test.true c.loop-l.invariant.1)

pub offset_bounds-stack-d : goal.offset_bounds-stack-d
offset_bounds-stack-d c = omega arith

pub bounds-stack-d : goal.bounds-stack-d
bounds-stack-d c = omega (arith, top_left _ _ _ c.loop-l-test.true c.loop-l.invariant.1)

pub loop-l-smaller : goal.loop-l-smaller
loop-l-smaller c = omega (arith, top_left _ _ _ c.loop-l-test.true c.loop-l.invariant.1)

pub loop-l-preserved : goal.loop-l-preserved
loop-l-preserved c =
    let st = c.args.stack.now in
    let p = top_left st c.loop-l.d c.loop-l.l c.loop-l-test.true c.loop-l.invariant.1 in
    (omega arith, rw (bottom_out st c.loop-l.d c.loop-l.l p) at c.loop-l.invariant.1, sym (close_out st c.loop-l.d c.loop-l.l c.loop-l-test.true p) ∙ c.loop-l.invariant.2)

pub overflow_sub-result : goal.overflow_sub-result
overflow_sub-result c = omega arith

pub returns : goal.returns
returns c = sym (close_here _ c.loop-l.d c.loop-l.l c.loop-l-test.false) ∙ c.loop-l.invariant.2
