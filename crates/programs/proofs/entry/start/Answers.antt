-- `start` does what the arguments asked for, and answers the status of that. Assumes nothing.
use Rattle.programs.proofs.entry.start.Goals as goal

pub returns : goal.returns
returns g c = (c.requested.result, c.count-arguments.result, c.requested.ensures, c.perform.ensures)
