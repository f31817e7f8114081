-- `symbols::names::Names::text` meets its contract. Assumes nothing.
use mathlib.Core.Path.{sym}
use Rattle.symbols.proofs.EntryLaws.{side_first, side_second}
use Rattle.symbols.proofs.names.Names.text.Goals as goal

pub returns-then-side-eq0 : goal.returns-then-side-eq0
returns-then-side-eq0 c = sym (side_first _ _ _ c.if-side-eq0.true)

pub returns-else-side-eq0 : goal.returns-else-side-eq0
returns-else-side-eq0 c = sym (side_second _ _ _ c.if-side-eq0.false)
