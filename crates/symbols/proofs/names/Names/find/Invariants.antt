-- `symbols::names::Names::find` meets its contract: along the chain no entry passed has the name. Assumes nothing.
use Rattle.symbols.proofs.ChainLaws.{Along}
use Rattle.symbols.proofs.names.Names.find.Given as goal

abbrev pub invariant-loop-i : goal.invariant-loop-i
invariant-loop-i l = Along l.self.first.now l.self.second.now l.self.entries l.self.count l.kind l.key l.content l.link

abbrev pub decreases-loop-i : goal.decreases-loop-i
decreases-loop-i l = l.link
