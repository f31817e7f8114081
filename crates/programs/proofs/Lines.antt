-- Lines on standard error: a label, and what stands behind it, in a buffer that takes the longest. Assumes nothing.
use Prim.Native.Nat.{ℕ, ◌≤◌}
use native.Mathlib.Omega.{arith}
use mathlib.Core.List.{List}
use mathlib.Core.Path.{◌≡◌}
use lib.ListN.{take}
use Rattle.std.proofs.Math.Seq.{take-append_seam}
use Rattle.wire.specs.Output.{Puts}
use lib.ListN.{length}
use Rattle.messages.specs.Text.{label, unknown_option}
use Rattle.messages.proofs.Texts.{length_label, length_unknown}
use Rattle.programs.specs.Lines.{line_capacity, max_label, max_name, max_path}

-- What was put is what the first bytes say.
pub put_whole : (bs old new : List ℕ) (n : ℕ) → Puts bs n old new → take n new ≡ bs
put_whole bs old new n p = rw (p.0, p.1) (take-append_seam _ _)

module _ (name subject : List ℕ) (n : length name ≤ max_name) (s : length subject ≤ max_path) where
  pub label_short : length (label name subject) ≤ max_label
  label_short = omega (arith, length_label name subject, n, s)

  pub label_fits : length (label name subject) ≤ line_capacity
  label_fits = omega (arith, label_short)

  -- an option that there is not
  pub unknown_fits : length (unknown_option name subject) ≤ line_capacity
  unknown_fits = omega (arith, length_unknown name subject, n, s)
