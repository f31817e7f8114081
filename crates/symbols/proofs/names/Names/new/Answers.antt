-- `symbols::names::Names::new` meets its contract: with no entry nothing is chained. Assumes nothing.
use mathlib.Core.Path.{refl}
use Rattle.symbols.specs.Entry.{names_in}
use Rattle.symbols.specs.Names.{names_of}
use Rattle.symbols.proofs.ChainLaws.{chain_start}
use Rattle.symbols.proofs.names.Names.new.Goals as goal

pub invariant_of-result : goal.invariant_of-result
invariant_of-result c = record { chained = chain_start _ _ _ _ (rw c.new-entries.ensures refl) refl }

pub returns : goal.returns
unfolding names_of names_in
returns c = record { first = refl; second = refl; count = refl; none = refl }
