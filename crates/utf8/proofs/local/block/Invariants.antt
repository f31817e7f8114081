-- The windows so far were judged. Assumes nothing.
use mathlib.Core.Path.{◌≡◌}
use Rattle.std.specs.Slice.ArrayWindows.{array_windows_parts}
use Rattle.std.specs.Slice.Iter.{windows_rest, windows_size}
use Rattle.utf8.proofs.LocalRule.{Judging}
use Rattle.utf8.proofs.local.block.Given as goal

abbrev pub invariant-loop-p3 : goal.invariant-loop-p3
invariant-loop-p3 l = (windows_size (array_windows_parts l.p3-iterator) ≡ 4)
    × Judging l.s (windows_rest (array_windows_parts l.p3-iterator)) l.pass
