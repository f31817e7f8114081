-- `joiner::merging::merge` meets its contract: both measured, decided, both written. Assumes nothing.
use mathlib.Core.Path.{sym, ◌∙◌}
use Prim.Native.Nat.{ℕ}
use lib.ListN.{length-replicate}
use Rattle.joiner.proofs.MergeLaws.{rows-over, names-over, size-over, planned, written}
use Rattle.format.specs.Limits.{max_rows}
use Rattle.joiner.proofs.merging.merge.Goals as goal

pub returns-then-rows-gt-MAX_COUNT : goal.returns-then-rows-gt-MAX_COUNT
returns-then-rows-gt-MAX_COUNT c =
    rows-over c.requires _ c.fail.ensures c.if-rows-gt-MAX_COUNT.true

pub measure_both-requires : goal.measure_both-requires
measure_both-requires c =
    (record { rows = _; both = c.requires; few = c.if-rows-gt-MAX_COUNT.false }, length-replicate {A = ℕ} max_rows 0)

pub returns-in-None : goal.returns-in-None
returns-in-None c =
    let p = c.requires in
    let few = c.if-rows-gt-MAX_COUNT.false in
    names-over p few c.args.out.now c.fail-in-None.ensures (rw c.in-None.is at (c.measure_both.ensures _ p few))

pub returns-then-is_over : goal.returns-then-is_over
returns-then-is_over c =
    let p = c.requires in
    let few = c.if-rows-gt-MAX_COUNT.false in
    let m = rw c.in-Some.is at (c.measure_both.ensures _ p few) in
    size-over p few m c.args.out.now c.fail-then-is_over.ensures (sym c.is_over.ensures ∙ c.if-is_over.true)

pub put_both-requires : goal.put_both-requires
put_both-requires c =
    let p = c.requires in
    let few = c.if-rows-gt-MAX_COUNT.false in
    let m = rw c.in-Some.is at (c.measure_both.ensures _ p few) in
    record { rows = _; both = p; planned = planned p few m c.args.out.now (sym c.is_over.ensures ∙ c.if-is_over.false) }

pub returns : goal.returns
returns c =
    let p = c.requires in
    let few = c.if-rows-gt-MAX_COUNT.false in
    let m = rw c.in-Some.is at (c.measure_both.ensures _ p few) in
    let fits = sym c.is_over.ensures ∙ c.if-is_over.false in
    written p few m c.args.out.now fits (c.put_both.ensures _ p (planned p few m c.args.out.now fits))
