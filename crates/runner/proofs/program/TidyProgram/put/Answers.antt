-- `runner::program::Tidy::put` meets its contract: what `tidy` promises of any number. Assumes nothing.
use Rattle.runner.proofs.program.TidyProgram.put.Goals as goal

pub returns : goal.returns
returns c = c.tidy.ensures _
