-- `any_name` enters a name unseen. Assumes nothing.
use Rattle.std.specs.Prelude.{Ok}
use native.Mathlib.Omega.{arith}
use mathlib.Core.Path.{refl, ap}
use Rattle.items.proofs.NameEntry.{plain-full, plain-entered}
use Rattle.items.proofs.item.any_name.Goals as goal

pub returns-then-names-ge-MAX_ENTRIES : goal.returns-then-names-ge-MAX_ENTRIES
returns-then-names-ge-MAX_ENTRIES c = λ s links l f. plain-full s c.args.entries.now _ _ _ _ c.requires.0 c.requires.1
    c.requires.2 c.requires.3 f.size links (omega arith) refl

pub returns : goal.returns
returns c =
    λ s links l f. plain-entered s c.args.entries.now _ _ _ _ c.requires.0 c.requires.1 c.requires.2
    c.requires.3 f.size links c.plain_entry.ensures (omega arith) (ap Ok c.fresh.ensures)
