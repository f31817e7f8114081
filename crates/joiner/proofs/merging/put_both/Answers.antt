-- `joiner::merging::put_both` meets its contract: the first is written, then the second after it. Assumes nothing.
use mathlib.Core.List.{[]}
use Rattle.joiner.proofs.MergeLaws.{planning-first, planning-second, put-none}
use Rattle.joiner.proofs.merging.put_both.Goals as goal

pub put-w-requires : goal.put-w-requires
put-w-requires c =
    record { zs = []; ws = _; u = c.requires.both.u; old = c.args.out.now; planning = planning-first c.requires.both c.requires.planned; put = rw c.start.ensures (put-none _) }

pub put-requires : goal.put-requires
put-requires c =
    record { zs = _; ws = []; u = c.requires.both.v; old = c.args.out.now; planning = planning-second c.requires.both c.requires.planned; put = c.put-w.ensures [] _ _ c.args.out.now (planning-first c.requires.both c.requires.planned) (rw c.start.ensures (put-none _)) }

pub returns : goal.returns
returns c =
    λ rows p g. c.put.ensures _ _ _ _ (planning-second p g) (c.put-w.ensures [] _ _ _ (planning-first p g) (rw c.start.ensures (put-none _)))
