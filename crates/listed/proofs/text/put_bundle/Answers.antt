-- `listed::text::put_bundle` meets its contract. The loop's invariant: of the text the lines from row i on are to
-- come, of the buffer as the first line left it. Assumes nothing.
use Rattle.std.proofs.Common.{◌<◌, ◌∙◌, length, arith}
use Rattle.listed.proofs.Texts.{printed, few-rows, last, row_count, turn, line_fits, line_put, prints_none, prints_all}
use Rattle.ascii.proofs.Writing.{fits, next, afresh, since}
use Rattle.listed.proofs.text.put_bundle.Goals as goal

pub returns-then-out-lt-MAX_LEN : goal.returns-then-out-lt-MAX_LEN
returns-then-out-lt-MAX_LEN c = prints_none c.args.out.now c.if-out-lt-MAX_LEN.true c.args.k c.args.bundle.now

pub put_first-at-requires : goal.put_first-at-requires
put_first-at-requires c =
    line_fits c.args.bundle.now c.read-t.result c.read-t.ensures c.args.k c.args.out.now c.if-out-lt-MAX_LEN.false

pub loop-i-init : goal.loop-i-init
loop-i-init c =
    let p = line_put c.args.bundle.now c.read-t.result c.read-t.ensures c.args.k c.args.out.now
    c.if-out-lt-MAX_LEN.false _ _ c.put_first-at.ensures in
    (omega arith, afresh p)

pub offset_bounds-t-i : goal.offset_bounds-t-i
offset_bounds-t-i c =
    let count = c.row_count-i-end.ensures ∙ row_count c.args.bundle.now c.read-t.result c.read-t.ensures in
    omega (arith, count, few-rows c.args.bundle.now, c.loop-i-test.true)

pub bounds-t-i : goal.bounds-t-i
bounds-t-i c =
    let count = c.row_count-i-end.ensures ∙ row_count c.args.bundle.now c.read-t.result c.read-t.ensures in
    omega (arith, count, few-rows c.args.bundle.now, c.loop-i-test.true)

pub put_row-at-requires : goal.put_row-at-requires
put_row-at-requires c =
    let count = c.row_count-i-end.ensures ∙ row_count c.args.bundle.now c.read-t.result c.read-t.ensures in
    let g : c.loop-i.i < length (printed c.args.bundle.now) = omega (arith, count, c.loop-i-test.true) in
    fits (turn c.args.bundle.now c.read-t.result c.read-t.ensures c.loop-i.invariant.1 g)

pub loop-i-preserved : goal.loop-i-preserved
loop-i-preserved c =
    let count = c.row_count-i-end.ensures ∙ row_count c.args.bundle.now c.read-t.result c.read-t.ensures in
    let g : c.loop-i.i < length (printed c.args.bundle.now) = omega (arith, count, c.loop-i-test.true) in
    let q = turn c.args.bundle.now c.read-t.result c.read-t.ensures c.loop-i.invariant.1 g in
    (omega (arith, c.loop-i.invariant.0), next q _ _ c.put_row-at.ensures)

pub returns : goal.returns
returns c =
    let p = line_put c.args.bundle.now c.read-t.result c.read-t.ensures c.args.k c.args.out.now
    c.if-out-lt-MAX_LEN.false _ _ c.put_first-at.ensures in
    let count = c.row_count-i-end.ensures ∙ row_count c.args.bundle.now c.read-t.result c.read-t.ensures in
    let q = last c.args.bundle.now (since p c.loop-i.invariant.1 c.loop-i.invariant.0)
    (omega (arith, count, c.loop-i-test.false, c.loop-i.auto.i-end)) in
    rw c.outcome.ensures
    (prints_all c.args.out.now c.if-out-lt-MAX_LEN.false c.args.k c.args.bundle.now c.read-t.result c.read-t.ensures q)
