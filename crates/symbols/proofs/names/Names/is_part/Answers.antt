-- `symbols::names::Names::is_part` meets its contract: no entry before it has the name. Assumes nothing.
use Rattle.symbols.proofs.ChainLaws.{placed}
use Rattle.symbols.proofs.names.Names.is_part.Goals as goal

pub returns : goal.returns
returns c = λ h. placed c.args.self.now (c.if-self-i.false) (c.is_part.ensures h)
