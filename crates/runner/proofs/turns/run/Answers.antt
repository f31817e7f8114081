-- `runner::turns::run` meets its contract: it has ended, or gives up. Assumes nothing.
use Rattle.std.proofs.Common.{refl, inl, inr, arith}
use Rattle.stream.proofs.Taking.{goes_on_with, not_yet, ran}
use Rattle.runner.proofs.Lengths.{long_enough}
use Rattle.runner.proofs.turns.run.Goals as goal

pub loop-init : goal.loop-init
loop-init g c =
    record { ready = rw c.begin.ensures ((omega arith, omega arith), omega arith); going = not_yet _ _ _ _ }

pub returns-then-s : goal.returns-then-s
returns-then-s g c =
    ran c.loop.invariant.going c.args.before _ c.begin.ensures
    (long_enough _ _ _ c.buffer-input.ensures.1 (omega (arith, g.met.P.Program.fits, c.buffer-output.ensures.0)))
    (inl (c.if-s.true, refl))

pub loop-preserved : goal.loop-preserved
loop-preserved g c =
    let turned = c.turn.ensures in
    record {
      ready = turned.still_ready;
      going = goes_on_with c.loop.invariant.going _ _ _ c.if-s.false turned.turns;
    }

pub returns : goal.returns
returns g c =
    ran c.loop.invariant.going c.args.before _ c.begin.ensures
    (long_enough _ _ _ c.buffer-input.ensures.1 (omega (arith, g.met.P.Program.fits, c.buffer-output.ensures.0)))
    (inr (omega (arith, c.loop-test.false, c.loop.auto.counter-end), c.fail.ensures))
