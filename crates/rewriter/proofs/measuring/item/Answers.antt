-- `rewriter::measuring::item` meets its contract: in a bundle that reads no header is cut. Assumes nothing.
use Rattle.format.specs.Reading.{lenient}
use Rattle.format.proofs.Turns.{never-cut}
use Rattle.rewriter.proofs.measuring.item.Goals as goal

pub headed-requires : goal.headed-requires
headed-requires c =
    (c.requires.0, rw c.in-Some.is at c.header_at.ensures)

pub returns-in-None : goal.returns-in-None
returns-in-None c =
    λ zs u w p. never-cut lenient _ p.state p.reads (rw p.offset c.requires.1)
    (rw p.offset (rw c.in-None.is at c.header_at.ensures))
