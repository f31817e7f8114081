-- `name` makes an entry, and goes past the content. Assumes nothing.
use mathlib.Core.Path.{ap}
use lib.ListN.{set}
use Rattle.walk.proofs.name.Goals as goal

pub returns : goal.returns
returns c = record {
  walked = c.content.ensures;
  entered = ap (set c.args.table.now c.args.entries) c.plain_entry.ensures;
}
