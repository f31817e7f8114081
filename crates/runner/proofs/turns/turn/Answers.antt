-- `runner::turns::turn` meets its contract, action by action. Assumes nothing.
use Rattle.std.proofs.Common.{sym, ◌∙◌}
use Rattle.stream.proofs.Taking.{read-space}
use Rattle.runner.proofs.turns.turn.Goals as goal

pub refill-requires : goal.refill-requires
refill-requires g c =
    let told = sym c.in-Read.is ∙ c.next.ensures in
    (c.requires.ready, read-space c.args.s.now.window c.args.input.now c.requires.ready.0 c.requires.buffers.takes_envelope told)
