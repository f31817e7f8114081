-- `programs::sources::serve_all` meets its contract: the files before the next were served. Assumes nothing.
use Rattle.std.proofs.Common.{◌-◌}
use Rattle.programs.specs.Exit.{Served}
use Rattle.programs.proofs.sources.serve_all.Given as goal

abbrev pub invariant-loop-i : goal.invariant-loop-i
invariant-loop-i g l = Served g.P.Program.filter (l.i - 1) l.s
