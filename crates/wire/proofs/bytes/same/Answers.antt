-- `same` compares byte by byte. Assumes nothing.
use mathlib.Core.Path.{sym, ◌∙◌}
use native.Mathlib.Omega.{arith}
use Rattle.wire.proofs.SameLaws.{apart, differs, agrees, ends}
use Rattle.wire.proofs.bytes.same.Goals as goal

pub returns-then-a-b : goal.returns-then-a-b
returns-then-a-b c = sym (apart _ _ c.if-a-b.true)

pub returns-then-x-b : goal.returns-then-x-b
returns-then-x-b c = sym (c.loop-i.invariant ∙ differs _ _ c.loop-i.i (omega arith) (omega arith) c.if-x-b.true)

pub loop-i-preserved : goal.loop-i-preserved
loop-i-preserved c = c.loop-i.invariant ∙ agrees _ _ c.loop-i.i (omega arith) (omega arith) c.if-x-b.false

pub returns : goal.returns
returns c = sym (c.loop-i.invariant ∙ ends _ _ c.loop-i.i (omega arith) c.if-a-b.false)
