-- `programs::sources::serve_file` meets its contract: a run, or a file that cannot be opened. Assumes nothing.
use Rattle.programs.specs.Exit.{ran, unopened}
use Rattle.programs.proofs.sources.serve_file.Goals as goal

pub returns-in-Ok-open : goal.returns-in-Ok-open
returns-in-Ok-open g c = ran c.serve.ensures

pub returns : goal.returns
returns g c = rw c.fail.ensures unopened
