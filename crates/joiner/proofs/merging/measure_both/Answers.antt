-- `joiner::merging::measure_both` meets its contract: the first is measured, then the second after it. Assumes nothing.
use mathlib.Core.List.{[]}
use Rattle.joiner.proofs.MergeLaws.{begun_first, begun-second, both-measured, first-fits}
use Rattle.joiner.proofs.merging.measure_both.Goals as goal

pub measure-requires : goal.measure-requires
measure-requires c =
    let (f, n) = c.requires in
    record { zs = []; u = _; begun = begun_first f.both f.few c.begin.ensures c.new-names.ensures n }

pub returns-in_err-t : goal.returns-in_err-t
returns-in_err-t c =
    λ rows p l.
    let m = rw c.in_err-t.was at c.measure.ensures in
    absurd (first-fits p l (m [] p.u (begun_first p l c.begin.ensures c.new-names.ensures c.requires.1)).0)

pub measure-requires-2 : goal.measure-requires-2
measure-requires-2 c =
    let (f, fits) = c.requires in
    let one = rw c.in_ok-t.was at c.measure.ensures in
    record { zs = _; u = _; begun = begun-second f.both f.few c.begin.ensures c.new-names.ensures fits one }

pub returns : goal.returns
returns c =
    λ rows p l.
    let m = rw c.in_ok-t.was at c.measure.ensures in
    let g = begun-second p l c.begin.ensures c.new-names.ensures c.requires.1 m in
    both-measured p l _ _ _ _ (c.measure-2.ensures _ _ g)
