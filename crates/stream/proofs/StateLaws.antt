-- The window behind an envelope. Assumes nothing.
use Rattle.std.proofs.Common.{◌≡◌, ℕ, ◌+◌, true, ◌≢◌}
use Rattle.format.specs.Choice.{pick}
use Rattle.format.proofs.Tests.{eqb_no, eqb_yes}
use Rattle.stream.specs.declared.input.Window.{Window}
use Rattle.stream.specs.State.{moved_on}

module _ (w : Window) {used : ℕ} where
  pub stops : used ≡ 0 → moved_on w used ≡ record { start = w.end; end = w.end; ended = true }
  unfolding moved_on pick
  stops z = rw (eqb_yes z)

  pub goes_on : used ≢ 0 → moved_on w used ≡ record { start = w.start + used; end = w.end; ended = w.ended }
  unfolding moved_on pick
  goes_on z = rw (eqb_no z)
