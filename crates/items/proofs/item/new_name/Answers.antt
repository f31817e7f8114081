-- `new_name` notes a name, which must be new. Assumes nothing.
use Rattle.std.specs.Prelude.{Ok}
use native.Mathlib.Omega.{arith}
use mathlib.Core.Path.{refl, ap}
use Rattle.items.proofs.NameEntry.{stands, strict-known, strict-full, strict-entered}
use Rattle.items.proofs.item.new_name.Goals as goal

pub note-requires : goal.note-requires
note-requires c = (
  c.requires.5,
  stands c.args.s.now c.args.entries.now c.args.names c.args.kind c.args.next c.args.e c.requires.0 c.requires.1 c.requires.2
      (omega (arith, c.requires.3, c.requires.4)) c.requires.5.table.size c.requires.3,
  c.key_of-key.ensures.0,
)

pub returns-in-Known : goal.returns-in-Known
returns-in-Known c = strict-known c.args.s.now c.args.entries.now c.args.names c.args.kind c.args.next c.args.e c.requires.0 c.requires.1 c.requires.2
    (omega (arith, c.requires.3, c.requires.4)) c.requires.5.table.size c.requires.3
    (rw c.in-Known.is at c.note.ensures).0 refl

pub returns-in-Entered : goal.returns-in-Entered
returns-in-Entered c = strict-entered c.args.s.now c.args.entries.now c.args.names c.args.kind c.args.next c.args.e c.requires.0 c.requires.1 c.requires.2
    (omega (arith, c.requires.3, c.requires.4)) c.requires.5.table.size c.requires.3
    (rw c.in-Entered.is at c.note.ensures) (ap Ok c.fresh.ensures)

pub returns-in-Full : goal.returns-in-Full
returns-in-Full c = let n = rw c.in-Full.is at c.note.ensures in
    strict-full c.args.s.now c.args.entries.now c.args.names c.args.kind c.args.next c.args.e c.requires.0 c.requires.1 c.requires.2
    (omega (arith, c.requires.3, c.requires.4)) c.requires.5.table.size c.requires.3 n.0 n.1 refl
