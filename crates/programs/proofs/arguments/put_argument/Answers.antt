-- `programs::arguments::put_argument` meets its contract. Assumes nothing.
use Rattle.std.proofs.Common.{sym, arith, length-take-le}
use Rattle.programs.proofs.arguments.put_argument.Goals as goal

pub returns-in-Ok : goal.returns-in-Ok
returns-in-Ok c = record { within = omega arith; put = sym (length-take-le _ _ (omega arith)) }
