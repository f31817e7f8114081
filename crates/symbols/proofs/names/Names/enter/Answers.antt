-- `symbols::names::Names::enter` meets its contract: the stores are those of `chain_more`. Assumes nothing.
use mathlib.Core.Path.{refl}
use native.Mathlib.Omega.{arith}
use Rattle.symbols.specs.Names.{names_of}
use Rattle.symbols.proofs.ChainLaws.{chain_more, names-set}
use Rattle.symbols.proofs.names.Names.enter.Goals as goal

pub invariant_of-self : goal.invariant_of-self
unfolding names_of
invariant_of-self c =
    record { chained = rw c.bucket-head.ensures (chain_more c.args.self.now.chained c.requires.0 c.requires.1 c.requires.2) }

pub returns : goal.returns
unfolding names_of
returns c =
    record {
      room = c.requires.0;
      first = refl;
      second = refl;
      count = refl;
      entries = refl;
      names = names-set _ _ _ _ _ (omega (arith, c.requires.0, c.args.self.now.chained.table.size));
    }
