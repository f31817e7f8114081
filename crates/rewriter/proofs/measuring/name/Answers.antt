-- `rewriter::measuring::name` meets its contract: the name is known, new, or one too many. Assumes nothing.
use mathlib.Core.Path.{ap, ◌∙◌}
use Prim.Native.Nat.{◌+◌}
use native.Mathlib.Omega.{arith}
use Rattle.rewriter.specs.Measuring.{tallied}
use Rattle.rewriter.proofs.MeasureSteps.{alike_same, name_here, known_on, fresh_on, full-over}
use Rattle.rewriter.proofs.measuring.name.Goals as goal

pub overflow_add-next : goal.overflow_add-next
overflow_add-next c =
    let q = name_here c.requires in omega (arith, q.within, q.short)

pub overflow_add-e : goal.overflow_add-e
overflow_add-e c =
    let q = name_here c.requires in omega (arith, q.within, q.short)

pub slice_bounds-p-end : goal.slice_bounds-p-end
slice_bounds-p-end c =
    omega (arith, (name_here c.requires).within)

pub key_of-key-requires : goal.key_of-key-requires
key_of-key-requires c =
    let q = (name_here c.requires).part in
    rw (c.of-len.ensures, c.kind_of-kind.ensures) (omega (arith, q.low), omega (arith, q.high), q.short)

pub note-requires : goal.note-requires
note-requires c = (
  rw (c.of-len.ensures, c.kind_of-kind.ensures)
      (name_here c.requires).part,
  c.key_of-key.ensures.0,
)

pub overflow_cast-to : goal.overflow_cast-to
overflow_cast-to c = let g = rw c.in-Known.is at c.note.ensures in omega (arith, g.1)

pub offset_bounds-to-old : goal.offset_bounds-to-old
offset_bounds-to-old c =
    omega (arith, (name_here c.requires).old)

pub bounds-to-old : goal.bounds-to-old
bounds-to-old c =
    omega (arith, (name_here c.requires).old, c.requires.0.partway.width)

pub overflow_add-old : goal.overflow_add-old
overflow_add-old c =
    omega (arith, (name_here c.requires).old)

pub overflow_cast-i : goal.overflow_cast-i
overflow_cast-i c =
    let g = rw c.in-Known.is at c.note.ensures in omega (arith, g.1)

pub referred-requires : goal.referred-requires
referred-requires c =
    let q = name_here c.requires in (c.requires.0.partway.measured.plan_size, q.room, q.small)

pub overflow_cast-to-in-Entered : goal.overflow_cast-to-in-Entered
overflow_cast-to-in-Entered c = let g = rw c.in-Entered.is at c.note.ensures in omega (arith, g.grown.room)

pub offset_bounds-to-old-in-Entered : goal.offset_bounds-to-old-in-Entered
offset_bounds-to-old-in-Entered c =
    omega (arith, (name_here c.requires).old)

pub bounds-to-old-in-Entered : goal.bounds-to-old-in-Entered
bounds-to-old-in-Entered c =
    omega (arith, (name_here c.requires).old, c.requires.0.partway.width)

pub shortest_len-requires : goal.shortest_len-requires
shortest_len-requires c =
    (_, c.requires.1)

pub overflow_add-shortest_len : goal.overflow_add-shortest_len
overflow_add-shortest_len c =
    let q = name_here c.requires in omega (arith, q.within, q.short, c.shortest_len.ensures.1)

pub fresh-requires : goal.fresh-requires
fresh-requires c =
    let q = name_here c.requires in (
      c.requires.0.partway.measured.plan_size,
      q.room,
      q.small,
      omega (arith, q.within, q.short, c.of-len.ensures, c.shortest_len.ensures.1),
      q.old,
    )

pub returns-in-Known : goal.returns-in-Known
returns-in-Known c =
    λ zs u w p.
    let q = name_here c.requires in
    let g = rw (c.in-Known.is, c.of-len.ensures, c.kind_of-kind.ensures, q.count) at c.note.ensures in
    rw (g.2, c.referred.ensures.planned)
    (known_on w p c.requires.1 q.form c.requires.2 c.in-Known.i g.0 g.1
    (rw c.of-len.ensures at c.referred.ensures.state))

pub returns-in-Entered : goal.returns-in-Entered
returns-in-Entered c =
    λ zs u w p.
    let q = name_here c.requires in
    let g = rw (c.in-Entered.is, c.of-len.ensures, c.kind_of-kind.ensures, q.count) at c.note.ensures in
    rw (c.fresh.ensures.planned)
    (fresh_on w p c.requires.1 q.form c.requires.2 g (rw c.of-len.ensures at c.fresh.ensures.state
    ∙ ap (tallied c.args.t.now (c.args.t.now.at + c.args.h.size + c.args.h.payload) (c.args.t.now.entries + 1))
    (omega (arith, q.count, c.shortest_len.ensures.0))))

pub returns-in-Full : goal.returns-in-Full
returns-in-Full c =
    λ zs u w p.
    let q = name_here c.requires in
    let g = rw (c.in-Full.is, c.of-len.ensures, c.kind_of-kind.ensures, q.count)
    at c.note.ensures in
    (full-over w p c.requires.1 q.form c.requires.2 g.0 g.1, alike_same g.2)
