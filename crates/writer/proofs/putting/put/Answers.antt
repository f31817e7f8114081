-- `put` leaves the canonical encoding: each turn writes one row more.
use native.Mathlib.Omega.{arith}
use Rattle.writer.proofs.PutLaws.{next_asks, put_all, put-more, put-none}
use Rattle.writer.proofs.putting.put.Goals as goal

pub loop-i-init : goal.loop-i-init
loop-i-init c = put-none c.args.text.now c.args.rows.now c.args.out.now

pub put_next-at-requires : goal.put_next-at-requires
put_next-at-requires c =
    next_asks c.args.text.now c.args.plan.now c.args.rows.now _ c.requires c.loop-i.i
    (omega (arith, c.loop-i-test.true)) c.loop-i.at c.loop-i.out c.loop-i.auto.out c.loop-i.invariant.0

pub loop-i-preserved : goal.loop-i-preserved
loop-i-preserved c =
    put-more c.args.text.now c.args.plan.now c.args.rows.now _ c.requires c.loop-i.i (omega (arith, c.loop-i-test.true))
    c.loop-i.at _ _ _ _ c.loop-i.invariant c.put_next-at.ensures

pub returns : goal.returns
returns c =
    put_all c.args.text.now c.args.rows.now c.loop-i.i c.loop-i.at c.args.out.now c.loop-i.out
    (omega (arith, c.loop-i-test.false)) c.loop-i.invariant
