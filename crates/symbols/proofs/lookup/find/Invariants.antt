-- `symbols::lookup::find` meets its contract: along the chain no entry passed has the name. Assumes nothing.
use Rattle.symbols.proofs.ChainLaws.{Along}
use Rattle.symbols.proofs.lookup.find.Given as goal

abbrev pub invariant-loop-i : goal.invariant-loop-i
invariant-loop-i l = Along l.first l.second l.entries l.count l.kind l.key l.content l.link

abbrev pub decreases-loop-i : goal.decreases-loop-i
decreases-loop-i l = l.link
