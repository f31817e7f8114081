-- The first k bytes and the last k are all. Assumes nothing.
use Rattle.format.proofs.Tests.{and-true}
use Rattle.utf8.proofs.AsciiRuns.{ends-good}
use Rattle.utf8.proofs.ascii.ascii_ends.Goals as goal

pub returns : goal.returns
returns c = λ e. let (p, q) = and-true _ _ e in
    ends-good c.args.s.now c.args.k c.requires.0 c.requires.1 (c.is_ascii.ensures p) (c.is_ascii-2.ensures q)
