-- `rewriter::item::shortest_len` meets its contract: one byte, or measured. Assumes nothing.
use native.Mathlib.Omega.{arith}
use Rattle.encoder.proofs.Lengths.{header-most}
use Rattle.rewriter.proofs.Arms.{one_byte}
use Rattle.rewriter.proofs.item.shortest_len.Goals as goal

pub returns-then-size-eq1 : goal.returns-then-size-eq1
returns-then-size-eq1 c = (one_byte c.requires.0 c.args.h c.requires.1 c.if-size-eq1.true, omega arith)

pub returns : goal.returns
returns c = (
  c.header_len.ensures,
  rw c.header_len.ensures
      (header-most c.args.h.code c.args.h.payload (omega arith)),
)
