-- `listed::text::put_bundle` meets its contract. The loop's invariant: of the text the lines from row i on are to
-- come, of the buffer as the first line left it. Assumes nothing.
use Prim.Native.Nat.{◌≤◌}
use lib.ListN.{drop}
use Rattle.listed.specs.Text.{row_lines, text}
use Rattle.listed.proofs.Texts.{printed}
use Rattle.ascii.proofs.Writing.{Stage}
use Rattle.listed.proofs.text.put_bundle.Given as goal

abbrev pub invariant-loop-i : goal.invariant-loop-i
invariant-loop-i l = (l.initial.at ≤ l.at) × Stage (text l.k l.bundle) l.initial.out l.out l.at (row_lines l.i (drop l.i (printed l.bundle)))
