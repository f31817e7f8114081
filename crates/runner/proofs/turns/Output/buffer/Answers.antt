-- `runner::turns::Output::buffer` meets its contract. Assumes nothing.
use Rattle.std.proofs.Common.{ℕ, sym, arith}
use lib.ListN.{length-replicate}
use Rattle.runner.specs.Program.{output_capacity}
use Rattle.runner.proofs.turns.Output.buffer.Goals as goal

pub returns : goal.returns
returns c = let long = length-replicate {A = ℕ} output_capacity 0 in (sym long, omega (arith, long), omega (arith, long))
