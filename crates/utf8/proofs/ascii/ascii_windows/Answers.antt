-- Windows of ASCII pass. Assumes nothing.
use Rattle.utf8.proofs.AsciiRuns.{windows_ascii}
use Rattle.utf8.proofs.ascii.ascii_windows.Goals as goal

pub returns-then-is_ascii : goal.returns-then-is_ascii
returns-then-is_ascii c =
    windows_ascii c.args.s.now c.ascii_front.result c.requires c.ascii_front.ensures.0 (c.is_ascii.ensures c.if-is_ascii.true)
    c.ascii_front.ensures.1
