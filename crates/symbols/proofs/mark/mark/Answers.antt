-- The mark of all bytes is the mark of those left, begun with `h`. Assumes nothing.
use mathlib.Core.Path.{sym, ◌∙◌}
use native.Mathlib.Omega.{arith}
use Rattle.symbols.proofs.MarkLaws.{mark_start, mark_eight, mark_rest}
use Rattle.symbols.proofs.mark.mark.Goals as goal

pub loop-rest-init : goal.loop-rest-init
loop-rest-init c = (omega arith, mark_start _)

pub loop-rest-preserved : goal.loop-rest-preserved
loop-rest-preserved c = (
  c.mix-h.ensures.1,
  c.loop-rest.invariant.1
      ∙ mark_eight _ _ _ _ _ c.loop-rest-test.true c.number.ensures c.number-in-loop-rest.ensures c.mix-h.ensures.0,
)

pub returns : goal.returns
returns c = (c.end.ensures.0 ∙ sym (c.loop-rest.invariant.1 ∙ mark_rest _ _ c.loop-rest-test.false), c.end.ensures.1)
