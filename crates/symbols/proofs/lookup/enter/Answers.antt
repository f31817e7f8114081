-- The stores are those of `chain_more`. Assumes nothing.
use Rattle.symbols.proofs.ChainLaws.{chain_more}
use Rattle.symbols.proofs.lookup.enter.Goals as goal

pub returns-clause-chained : goal.returns-clause-chained
returns-clause-chained c = rw c.bucket-head.ensures (chain_more c.requires.0 c.requires.1 c.requires.2 c.requires.3)
